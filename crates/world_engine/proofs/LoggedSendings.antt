-- What the log has of a node's transmissions and tunings, with one entry more.
use Rattle.std.proofs.Common.{Bool, ◌≡◌, ◌≢◌, ℕ, List, [], ◌∷◌, ◌++◌, filter, ◌==◌, ◌∙◌, ap, Contains, inl, inr, subst, eq-eqb}
use Rattle.std.specs.Prelude.{◌⊎◌}
use Rattle.std.proofs.lemmas.Bool.{cond-true, cond-false, ne_eqb}
use Rattle.std.proofs.lemmas.List.{append-nil}
use Rattle.std.proofs.lemmas.List.Elements.{filter-append, Contains-push_cases}
use Rattle.radio_model.specs.declared.sending.Sending.{Sending}
use Rattle.radio_model.specs.OnAir.{Tuning}
use Rattle.air_log.specs.declared.entry.Entry.{Entry}
use Rattle.air_log.specs.declared.entry.Entry.TheVariants.{Sent}
use Rattle.air_log.specs.Entries.{node_of_entry, sendings_of, heard_entry}
use Rattle.air_log.specs.Lawful.{sent_by, tuned_by}
use Rattle.air_log.proofs.LoggedEntries.{sendings_sent, tunings_sent, sendings_heard, tunings_heard}

-- a transmission more
module _ (air : List Entry) (x : Sending) (v : ℕ) where
  abbrev is_of : Sending → Bool
  is_of y = y.node == v

  split : sent_by (air ++ Sent x ∷ []) v ≡ sent_by air v ++ filter is_of (x ∷ [])
  split = ap (filter is_of) (sendings_sent air x) ∙ filter-append is_of (sendings_of air) (x ∷ [])

  pub sent_own : x.node ≡ v → sent_by (air ++ Sent x ∷ []) v ≡ sent_by air v ++ x ∷ []
  sent_own is = split ∙ ap (λ (l : List Sending). sent_by air v ++ l) (cond-true (x.node == v) (x ∷ []) [] (eq-eqb x.node v is))

  pub sent_other : x.node ≢ v → sent_by (air ++ Sent x ∷ []) v ≡ sent_by air v
  sent_other not = split ∙ ap (λ (l : List Sending). sent_by air v ++ l) (cond-false (x.node == v) (x ∷ []) [] (ne_eqb x.node v not))
      ∙ append-nil (sent_by air v)

  pub tuned_beside_sent : tuned_by (air ++ Sent x ∷ []) v ≡ tuned_by air v
  tuned_beside_sent = ap (filter (λ (k : Tuning). k.node == v)) (tunings_sent air x)

-- a reception more
module _ (air : List Entry) (u : ℕ) (x : Sending) (v : ℕ) where
  pub sent_beside_heard : sent_by (air ++ heard_entry u x ∷ []) v ≡ sent_by air v
  sent_beside_heard = ap (filter (λ (y : Sending). y.node == v)) (sendings_heard air u x)

  pub tuned_beside_heard : tuned_by (air ++ heard_entry u x ∷ []) v ≡ tuned_by air v
  tuned_beside_heard = ap (filter (λ (k : Tuning). k.node == v)) (tunings_heard air u x)

-- an entry more is of its node
pub entry_more : (air : List Entry) (ids : List ℕ) (new : Entry) → Contains ids (node_of_entry new) → (e : Entry) → Contains (air ++ new ∷ []) e
    → Contains air e ⊎ Contains ids (node_of_entry e)
entry_more air ids new there e in_it =
    elim (Contains-push_cases air new e in_it) [ inl old ↦ inl old | inr is ↦ inr (subst (λ (d : Entry). Contains ids (node_of_entry d)) is there) ]
