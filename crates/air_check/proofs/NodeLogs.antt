-- The entries of a log by ids, one entry more.
use Rattle.std.proofs.Common.{◌≡◌, ◌≢◌, ℕ, zero, suc, ◌≤◌, List, [], ◌∷◌, ◌++◌, Bool, true, false, ◌==◌, if◌then◌else◌, Option, Some, None, filter, filter_map}
use Rattle.std.proofs.Common.{length, get_or, set, replicate, refl, sym, ap, ◌∙◌, arith}
use Rattle.std.specs.List.{cons_option}
use Rattle.std.proofs.lemmas.Bool.{cond-true, cond-false, eqb-true, eqb-false}
use Rattle.std.proofs.lemmas.List.{append-nil, length-set, get_or-set_same, get_or-set_other, length-replicate}
use Rattle.std.proofs.lemmas.List.Elements.{filter-append, filter_map-append}
use Rattle.radio_model.specs.declared.sending.Sending.{Sending}
use Rattle.radio_model.specs.OnAir.{Hearing, Tuning}
use Rattle.air_log.specs.declared.entry.Entry.{Entry}
use Rattle.air_log.specs.declared.entry.Entry.TheVariants.{Sent, Heard, Tuned}
use Rattle.air_log.specs.Courses.{hearing_of}
use Rattle.air_log.specs.DeviceStates.{tuning_of}
use Rattle.air_log.specs.Entries.{sending_in, hearing_in, tuning_in, node_of_entry}
use Rattle.air_log.specs.Lawful.{sent_by, hearings_by, tuned_by}
use Rattle.air_check.specs.NodeLogs.{NodeLogState, empty_node_log, log_by, after_entry, AreLogsOf}

-- what is picked of one entry more
module _ {X : Type 0} (pick : Entry → Option X) (own : X → Bool) (air : List Entry) (e : Entry) where
  split : filter own (filter_map pick (air ++ e ∷ [])) ≡ filter own (filter_map pick air) ++ filter own (cons_option (pick e) [])
  split =
      ap (filter own) (filter_map-append pick air (e ∷ []))
      ∙ filter-append own (filter_map pick air) (filter_map pick (e ∷ []))

  one : (x : X) → pick e ≡ Some x → filter own (filter_map pick (air ++ e ∷ [])) ≡ filter own (filter_map pick air) ++ (if own x then x ∷ [] else [])
  one x is = split ∙ ap (λ (o : Option X). filter own (filter_map pick air) ++ filter own (cons_option o [])) is

  none : pick e ≡ None → filter own (filter_map pick (air ++ e ∷ [])) ≡ filter own (filter_map pick air)
  none is =
      split ∙ ap (λ (o : Option X). filter own (filter_map pick air) ++ filter own (cons_option o [])) is
      ∙ append-nil (filter own (filter_map pick air))

abbrev log : List Sending → List Hearing → List Tuning → NodeLogState
log xs hs ts = record { sent = xs; heard = hs; tuned = ts }

pub log_more : (air : List Entry) (e : Entry) (v : ℕ) → log_by (air ++ e ∷ []) v ≡ (if node_of_entry e == v then after_entry (log_by air v) e else log_by air v)
log_more air (Sent x) v =
    rw (
      one sending_in (λ (y : Sending). y.node == v) air (Sent x) x refl,
      none hearing_in (λ (h : Hearing). h.node == v) air (Sent x) refl,
      none tuning_in (λ (t : Tuning). t.node == v) air (Sent x) refl,
    ) (by_test (x.node == v))
  where
    by_test : (b : Bool) → log (sent_by air v ++ (if b then x ∷ [] else [])) (hearings_by air v) (tuned_by air v)
        ≡ (if b then after_entry (log_by air v) (Sent x) else log_by air v)
    by_test true = refl
    by_test false = ap (λ (xs : List Sending). log xs (hearings_by air v) (tuned_by air v)) (append-nil (sent_by air v))
log_more air (Heard g) v =
    rw (
      none sending_in (λ (y : Sending). y.node == v) air (Heard g) refl,
      one hearing_in (λ (h : Hearing). h.node == v) air (Heard g) (hearing_of g) refl,
      none tuning_in (λ (t : Tuning). t.node == v) air (Heard g) refl,
    ) (by_test (g.node == v))
  where
    by_test : (b : Bool) → log (sent_by air v) (hearings_by air v ++ (if b then hearing_of g ∷ [] else [])) (tuned_by air v)
        ≡ (if b then after_entry (log_by air v) (Heard g) else log_by air v)
    by_test true = refl
    by_test false = ap (λ (hs : List Hearing). log (sent_by air v) hs (tuned_by air v)) (append-nil (hearings_by air v))
log_more air (Tuned e) v =
    rw (
      none sending_in (λ (y : Sending). y.node == v) air (Tuned e) refl,
      none hearing_in (λ (h : Hearing). h.node == v) air (Tuned e) refl,
      one tuning_in (λ (t : Tuning). t.node == v) air (Tuned e) (tuning_of e) refl,
    ) (by_test (e.node == v))
  where
    by_test : (b : Bool) → log (sent_by air v) (hearings_by air v) (tuned_by air v ++ (if b then tuning_of e ∷ [] else []))
        ≡ (if b then after_entry (log_by air v) (Tuned e) else log_by air v)
    by_test true = refl
    by_test false = ap (λ (ts : List Tuning). log (sent_by air v) (hearings_by air v) ts) (append-nil (tuned_by air v))

pub added_entry : (air : List Entry) (e : Entry) (logs : List NodeLogState) → AreLogsOf air logs → 1 ≤ node_of_entry e → node_of_entry e ≤ 200
    → AreLogsOf (air ++ e ∷ []) (set logs (node_of_entry e) (after_entry (get_or logs (node_of_entry e) empty_node_log) e))
added_entry air e logs are some few = record {
  ids = length-set logs (node_of_entry e) added ∙ are.ids;
  none = get_or-set_other logs (node_of_entry e) 0 added empty_node_log (λ same. omega (arith, same, some)) ∙ are.none;
  each = λ v. by_test v (node_of_entry e == v) refl;
}
  where
    added : NodeLogState
    added = after_entry (get_or logs (node_of_entry e) empty_node_log) e

    by_test : (v : ℕ) (b : Bool) → (node_of_entry e == v) ≡ b → get_or (set logs (node_of_entry e) added) v empty_node_log ≡ log_by (air ++ e ∷ []) v
    by_test v true at =
        let own : node_of_entry e ≡ v = eqb-true (node_of_entry e) v at in
        ap (λ (w : ℕ). get_or (set logs (node_of_entry e) added) w empty_node_log) (sym own)
        ∙ get_or-set_same logs (node_of_entry e) added empty_node_log (omega (arith, are.ids, few))
        ∙ ap (λ (n : NodeLogState). after_entry n e) (are.each (node_of_entry e) ∙ ap (log_by air) own)
        ∙ sym (log_more air e v ∙ cond-true (node_of_entry e == v) (after_entry (log_by air v) e) (log_by air v) at)
    by_test v false at =
        let other : node_of_entry e ≢ v = eqb-false (node_of_entry e) v at in
        get_or-set_other logs (node_of_entry e) v added empty_node_log (λ same. other (sym same))
        ∙ are.each v
        ∙ sym (log_more air e v ∙ cond-false (node_of_entry e == v) (after_entry (log_by air v) e) (log_by air v) at)

nothing_yet : (n v : ℕ) → get_or (replicate n empty_node_log) v empty_node_log ≡ empty_node_log
nothing_yet zero v = refl
nothing_yet (suc n) zero = refl
nothing_yet (suc n) (suc v) = nothing_yet n v

pub none_yet : (logs : List NodeLogState) → logs ≡ replicate 201 empty_node_log → AreLogsOf [] logs
none_yet logs is = record {
  ids = ap (λ (l : List NodeLogState). length l) is ∙ length-replicate 201 empty_node_log;
  none = ap (λ (l : List NodeLogState). get_or l 0 empty_node_log) is ∙ nothing_yet 201 0;
  each = λ v. ap (λ (l : List NodeLogState). get_or l v empty_node_log) is ∙ nothing_yet 201 v;
}
