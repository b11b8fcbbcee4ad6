-- Which packets fit the flood of a node in a step.
use Rattle.std.proofs.Common.{◌≡◌, ℕ, ◌<◌, ◌≤◌, List, Bool, true, false, not, ◌&&◌, ◌||◌, if◌then◌else◌, inl, inr, Option, Some, None, option_map}
use Rattle.std.proofs.Common.{refl, sym, ◌∙◌, ap, ◌==◌, eq-eqb}
use Rattle.std.specs.Str.{bytes_eq}
use Rattle.std.proofs.lemmas.Bool.{cases_eq, lt-ltb, ne_eqb, false_from_ne_true}
use Rattle.std.proofs.lemmas.Slice.Eq.{bytes_eq-Decides}
use Rattle.lwb_packets.specs.Body.{body}
use Rattle.glossy_relay.specs.Relaying.{fits, carries}
use Rattle.bus_terms.specs.Flooding.{Setting, Moment, has, agrees, takes}
use Rattle.radio_model.specs.declared.sending.Sending.{Sending}
use Rattle.lwb_flood.specs.FloodRun.{Run, FloodRun, initiates, packet}
use Rattle.glossy_relay.proofs.CountedPackets.{slot_set, body_set}
use Rattle.lwb_flood.proofs.SendingTimes.{message_is}
use Rattle.lwb_flood.proofs.Stations.{spell, station}
use Rattle.lwb_flood.proofs.StepsOnAir.{IsAt}

module _ {r : Run} {Tuned : ℕ → Sending → Type 0} (f : FloodRun r Tuned) {k : ℕ} (few : k ≤ 11) {m : Moment} (at : IsAt r k m) where
  abbrev s : Setting
  s = r.setting

  -- what fits
  pub bodies : (p o i j : ℕ) → initiates r p → initiates r o → bytes_eq (body (packet r p i)) (body (packet r o j)) ≡ (p == o)
  bodies p o i j is is' =
      elim (cases_eq p o) [
        | inl same ↦ (let d = bytes_eq-Decides (body (packet r p i)) (body (packet r o j)) in
            d.1 (body_set (r.message p) i ∙ ap (λ (q : ℕ). body (r.message q)) same ∙ sym (body_set (r.message o) j)) ∙ sym (eq-eqb p o same))
        | inr other ↦ (let d = bytes_eq-Decides (body (packet r p i)) (body (packet r o j)) in
            false_from_ne_true _ (λ t. other (f.times.different p o is is' (sym (body_set (r.message p) i) ∙ d.0 t ∙ body_set (r.message o) j)))
            ∙ sym (ne_eqb p o other))
      ]

  abbrev pub wanted : ℕ → ℕ → Bool
  wanted v o = takes s m v o

  carries_is : (v o : ℕ) → initiates r o → carries (if has s.initiators v then Some (r.message v) else option_map (spell r) (m.heard v))
      (packet r o k) ≡ wanted v o
  carries_is v o begun = by_cases (has s.initiators v) (m.heard v) (λ is. is) (λ h is. at.heard v h is)
    where
      own : initiates r v → (h : Option (ℕ × ℕ)) → ((i : ℕ × ℕ) → h ≡ Some i → initiates r i.0 × (initiates r v → i.0 ≡ v))
          → carries (Some (r.message v)) (packet r o k) ≡ ((v == o) && agrees h o)
      own is h known =
          ap (λ (q : List ℕ). bytes_eq (body q) (body (packet r o k))) (sym (message_is r f.times v is)) ∙ bodies v o 0 k is begun
          ∙ elim (cases_eq v o) [
            | inl same ↦ agreed same h known
            | inr other ↦ rw (ne_eqb v o other) refl
          ]
        where
          agreed : v ≡ o → (h : Option (ℕ × ℕ)) → ((i : ℕ × ℕ) → h ≡ Some i → initiates r i.0 × (initiates r v → i.0 ≡ v)) → (v == o) ≡ ((v == o) && agrees h o)
          agreed same None known = rw (eq-eqb v o same) refl
          agreed same (Some i) known = rw (eq-eqb v o same) (sym (eq-eqb i.0 o ((known i refl).1 is ∙ same)))

      by_cases : (b : Bool) (h : Option (ℕ × ℕ)) → (b ≡ true → initiates r v) → ((i : ℕ × ℕ) → h ≡ Some i → initiates r i.0 × (initiates r v → i.0 ≡ v))
          → carries (if b then Some (r.message v) else option_map (spell r) h) (packet r o k) ≡ ((not b || (v == o)) && agrees h o)
      by_cases true h is known = own (is refl) h known
      by_cases false None is known = refl
      by_cases false (Some i) is known = bodies i.0 o i.1 k (known i refl).0 begun

  pub fits_is : (v o : ℕ) → initiates r o → m.sends v ≡ None → m.times v < s.limit → fits (station r m v) (packet r o k) ≡ wanted v o
  fits_is v o begun quiet less =
      let may = lt-ltb (m.times v) s.limit less in
      let spelled = f.times.spelled o k begun few in
      let slot = eq-eqb _ _ (slot_set (r.message o) k ∙ f.times.slot o begun) in
      rw (may, quiet, spelled, slot) (carries_is v o begun)
