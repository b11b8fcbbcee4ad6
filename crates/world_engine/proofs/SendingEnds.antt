-- What is in the log of a run after the end of a transmission.
use Rattle.std.proofs.Common.{◌≡◌, ◌≢◌, ℕ, suc, ◌<◌, ◌≤◌, ◌↔◌, ◌⊎◌, inl, inr, List, [], ◌∷◌, ◌++◌, length, map, true, false, slice_index_or, Some, refl, sym}
use Rattle.std.proofs.Common.{◌∙◌, ap, subst, arith, Contains, AllPairs}
use Rattle.std.proofs.lemmas.Bool.{cases_lt}
use Rattle.std.proofs.lemmas.List.{append-nil}
use Rattle.std.proofs.lemmas.List.Elements.{Contains-append_cases, Contains-append_left, Contains-append_right, All-contains}
use Rattle.std.proofs.lemmas.Option.{same_Some, get_or_from_slice_get}
use Rattle.link_trace.specs.Passes.{Lines}
use Rattle.radio_model.specs.declared.sending.Sending.{Sending}
use Rattle.radio_model.specs.OnAir.{Hearing}
use Rattle.radio_model.specs.Hearing.{Scene, HearsInScene}
use Rattle.radio_model.specs.Holding.{as_it_stands}
use Rattle.lwb_base.proofs.Elements.{not_in_none, contains_head, contains_tail, map_contains, map_from, pairs_cons, pairs_tail, pairs_head, pairs_append}
use Rattle.scenario_text.specs.ScenarioParts.{ScenarioParts}
use Rattle.event_calendar.specs.Orders.{Due, IsNext, IsNotAfter}
use Rattle.event_calendar.specs.declared.class.Class.TheVariants.{SendingEnd}
use Rattle.air_log.specs.Entries.{sendings_of, hearings_of, HasHeardEntry}
use Rattle.air_log.specs.Lawful.{reception_comes_before, AreInTurn}
use Rattle.world_engine.specs.Fields.{FieldState, IsField, ids_of}
use Rattle.world_engine.specs.FieldSteps.{EndsSending, DeviceSends, hearing_at}
use Rattle.world_engine.specs.Running.{Runs, HasHearings, IsOnAir}
use Rattle.world_engine.proofs.ShownTunings.{AreTuned, id_there, shown_id, shown_end, place_in}
use Rattle.world_engine.proofs.ScenesGoOn.{IsMoved, next, is_next, scene_after}
use Rattle.world_engine.proofs.AirInTime.{heard_alike}
use Rattle.world_engine.proofs.HearingOrder.{IsEarlier, earlier, comes_if, not_both, not_before, ids_ascend}
use Rattle.air_log.proofs.SameSendings.{which_sending}
use Rattle.world_engine.proofs.PlacesAtEnds.{IsAtEnd, StillRuns, ends_at, place_of, place_of_x, apart, x_runs, x_logged, rule, ids, ascending}
use Rattle.world_engine.proofs.PlacesAtEnds.{still_runs, was_running}
use Rattle.world_engine.proofs.PlacesAtEnds.{runs_on}

module _ {s : ScenarioParts} {lines : Lines} {clocks : ℕ → ℕ → ℕ} {t p : ℕ} {x : Sending} {hearers : List ℕ} {old : FieldState} {old_due : List Due}
    {new : FieldState} {new_due : List Due} {a : Scene} (at_end : IsAtEnd s lines clocks t p x hearers old old_due new new_due a) where
  -- the scene
  sent_same : sendings_of new.air ≡ sendings_of old.air ++ []
  sent_same = at_end.ends.sendings ∙ sym (append-nil (sendings_of old.air))

  none_starts : (y : Sending) → Contains [] y → (y.start < y.end) × (y.start ≤ t)
  none_starts y none = absurd (not_in_none y none)

  moves : (r : ℕ) → r < length old.devices → IsMoved t old old_due new new_due r
  moves r inside = (ends_at at_end r inside).moved

  abbrev later : Scene
  later = next s t [] old old_due new new_due a at_end.holds at_end.ends.air at_end.ends.same sent_same none_starts moves

  sent_on : (y : Sending) → Contains (sendings_of old.air) y → Contains (sendings_of new.air) y
  sent_on y there = subst (λ (l : List Sending). Contains l y) (sym at_end.ends.sendings) there

  sent_was : (y : Sending) → Contains (sendings_of new.air) y → Contains (sendings_of old.air) y
  sent_was y there = subst (λ (l : List Sending). Contains l y) at_end.ends.sendings there

  alike_by : (v : ℕ) (y : Sending) → Contains (sendings_of old.air) y → y.end ≤ t → HearsInScene (as_it_stands old.medium t a) v y
      ↔ HearsInScene (as_it_stands new.medium t later) v y
  alike_by v y there over = heard_alike s t old old_due a _ _ at_end.holds
      (is_next s t [] old old_due new new_due a at_end.holds at_end.ends.air at_end.ends.same sent_same none_starts moves).before v y there over

  -- the receptions
  abbrev fresh : List Hearing
  fresh = map (hearing_at old x) hearers

  pub id_at : (q : ℕ) (inside : q < length old.devices) → slice_index_or (ids_of old) q 0 ≡ (at_end.all q inside).setup.id
  id_at q inside = let at = at_end.all q inside in get_or_from_slice_get (ids_of old) q at.setup.id 0 (shown_id at.setup t old old_due q at.device at.shows)

  pub inside_of : (q : ℕ) → Contains hearers q → q < length old.devices
  inside_of q there = All-contains (λ (r : ℕ). r < length old.devices) hearers q at_end.ends.within there

  of_x : (g : Hearing) → Contains fresh g → g.sending ≡ x
  of_x g there = let q = map_from (hearing_at old x) hearers g there in ap (λ (k : Hearing). k.sending) (sym q.2)

  module _ (has : HasHearings (suc t) t old a) where
    abbrev IsRight : Hearing → Type 0
    IsRight g = Contains (sendings_of new.air) g.sending × (Runs new.medium g.sending → ⊥) × Contains (ids_of new) g.node
        × HearsInScene (as_it_stands new.medium t later) g.node g.sending

    right_was : (g : Hearing) → Contains (hearings_of old.air) g → IsRight g
    right_was g there =
        let was = (has.heard g.node g.sending).0 there in
        let over = has.ended g.sending was.0 was.1 in (
          sent_on g.sending was.0,
          λ ran. was.1 (was_running at_end g.sending (still_runs at_end g.sending ran)),
          subst (λ (l : List ℕ). Contains l g.node) (sym (ids at_end)) was.2,
          (alike_by g.node g.sending was.0 (omega (arith, over))).0 was.3,
        )

    right_now : (q : ℕ) → Contains hearers q → IsRight (hearing_at old x q)
    right_now q there =
        let inside = inside_of q there in
        let at = at_end.all q inside in
        let node = id_at q inside in
        let hears = (rule at_end q at.setup at.device at.shows).0 there in
        let id = shown_id at.setup t old old_due q at.device at.shows in (
          sent_on x (x_logged at_end),
          λ ran. apart at_end x (still_runs at_end x ran) refl,
          subst (λ (l : List ℕ). Contains l (slice_index_or (ids_of old) q 0)) (sym (ids at_end))
              (subst (Contains (ids_of old)) (sym node) (id_there old q at.setup.id id)),
          (alike_by _ x (x_logged at_end) (omega (arith, at_end.now))).0 (subst (λ (v : ℕ). HearsInScene (as_it_stands old.medium t a) v x) (sym node) hears),
        )

    heard_now : (v : ℕ) → Contains (ids_of old) v → HearsInScene (as_it_stands old.medium t a) v x → Contains fresh (record { node = v; sending = x })
    heard_now v there hears =
        let place = place_in old v there in
        let at = at_end.all place.place place.within in
        let same : at.setup.id ≡ v = same_Some at.setup.id v (sym (shown_id at.setup t old old_due place.place at.device at.shows) ∙ place.id) in
        let hearer = (rule at_end place.place at.setup at.device at.shows).1
        (subst (λ (u : ℕ). HearsInScene (as_it_stands old.medium t a) u x) (sym same) hears) in
        subst (Contains fresh) (ap (λ (u : ℕ). heard_at u) (id_at place.place place.within ∙ same)) (map_contains (hearing_at old x) hearers place.place hearer)
      where
        heard_at : ℕ → Hearing
        heard_at u = record { node = u; sending = x }

    heard_by_rule : (v : ℕ) (y : Sending) → HasHeardEntry new.air v y
        ↔ (Contains (sendings_of new.air) y × (Runs new.medium y → ⊥) × Contains (ids_of new) v × HearsInScene (as_it_stands new.medium t later) v y)
    heard_by_rule v y = (
      λ there. elim (Contains-append_cases (hearings_of old.air) fresh (record { node = v; sending = y })
          (subst (λ (l : List Hearing). Contains l (record { node = v; sending = y })) at_end.ends.hearings there)) [
            | inl was ↦ right_was (record { node = v; sending = y }) was
            | inr more ↦ (let q = map_from (hearing_at old x) hearers (record { node = v; sending = y }) more in subst IsRight q.2 (right_now q.0 q.1))
          ],
      λ right. subst (λ (l : List Hearing). Contains l (record { node = v; sending = y })) (sym at_end.ends.hearings) (back right),
    )
      where
        known : IsRight (record { node = v; sending = y }) → Contains (ids_of old) v
        known right = subst (λ (l : List ℕ). Contains l v) (ids at_end) right.2

        at_x : x ≡ y → IsRight (record { node = v; sending = y }) → Contains fresh (record { node = v; sending = y })
        at_x same right =
            let hears : HearsInScene (as_it_stands new.medium t later) v x = subst (HearsInScene (as_it_stands new.medium t later) v) (sym same) right.3 in
            subst (λ (z : Sending). Contains fresh (record { node = v; sending = z })) same
            (heard_now v (known right) ((alike_by v x (x_logged at_end) (omega (arith, at_end.now))).1 hears))

        at_other : x ≢ y → IsRight (record { node = v; sending = y }) → HasHeardEntry old.air v y
        at_other differ right =
            let logged = sent_was y right.0 in
            let stopped : Runs old.medium y → ⊥ = λ ran. right.1 (runs_on at_end y differ ran) in
            let over = has.ended y logged stopped in
            (has.heard v y).1 (logged, stopped, known right, (alike_by v y logged (omega (arith, over))).1 right.3)

        back : IsRight (record { node = v; sending = y }) → Contains (hearings_of old.air ++ fresh) (record { node = v; sending = y })
        back right =
            elim (which_sending x y) [
              | inl same ↦ Contains-append_right (hearings_of old.air) fresh (record { node = v; sending = y }) (at_x same right)
              | inr differ ↦ Contains-append_left (hearings_of old.air) fresh (record { node = v; sending = y }) (at_other differ right)
            ]

    ended_by : (y : Sending) → Contains (sendings_of new.air) y → (Runs new.medium y → ⊥) → y.end < suc t
    ended_by y there stopped =
        elim (which_sending x y) [
          | inl same ↦ omega (arith, at_end.now, ap (λ (z : Sending). z.end) same)
          | inr differ ↦ has.ended y (sent_was y there) (λ ran. stopped (runs_on at_end y differ ran))
        ]

    -- what was received before is not received again, and comes before
    not_again : (g k : Hearing) → Contains (hearings_of old.air) g → Contains fresh k → g ≢ k
    not_again g k was is same =
        ((has.heard g.node g.sending).0 was).1 (subst (Runs old.medium) (sym (ap (λ (z : Hearing). z.sending) same ∙ of_x k is)) (x_runs at_end))

    comes_first : (g k : Hearing) → Contains (hearings_of old.air) g → Contains fresh k → reception_comes_before k g ≡ false
    comes_first g k was is =
        let first = earlier g (record { node = x.node; sending = x }) (has.next g x was (x_runs at_end)) in
        not_before k g (λ back. not_both g.sending x first (subst (λ (z : Sending). IsEarlier z g.sending) (of_x k is) back))

    in_order : (g k : Hearing) → Contains fresh g → Contains fresh k → reception_comes_before k g ≡ false
    in_order g k first second =
        not_before k g (λ is. not_both x x (same_both is) (same_both is))
      where
        same_both : IsEarlier k.sending g.sending → IsEarlier x x
        same_both is = subst (λ (z : Sending). IsEarlier z x) (of_x k second) (subst (IsEarlier k.sending) (of_x g first) is)

    -- each place once
    differ_at : (q r : ℕ) → Contains hearers q → Contains hearers r → q < r → hearing_at old x q ≢ hearing_at old x r
    differ_at q r first second less same =
        let one = inside_of q first in
        let two = inside_of r second in
        let a_q = at_end.all q one in
        let a_r = at_end.all r two in
        let below = ids_ascend (ids_of old) (ascending at_end) q r a_q.setup.id a_r.setup.id (shown_id a_q.setup t old old_due q a_q.device a_q.shows)
        (shown_id a_r.setup t old old_due r a_r.device a_r.shows) less in
        omega (arith, below, id_at q one, id_at r two, ap (λ (g : Hearing). g.node) same)

    each_once : (qs : List ℕ) → ((q : ℕ) → Contains qs q → Contains hearers q) → AllPairs (λ a b. a < b) qs
        → AllPairs (λ g k. g ≢ k) (map (hearing_at old x) qs)
    each_once [] inside up = λ i j d less below. absurd (omega (arith, below))
    each_once (q ∷ qs) inside up =
        pairs_cons (λ g k. g ≢ k) (hearing_at old x q) (map (hearing_at old x) qs)
        (λ g there. let r = map_from (hearing_at old x) qs g there in
        subst (λ (k : Hearing). hearing_at old x q ≢ k) r.2
        (differ_at q r.0 (inside q (contains_head q qs)) (inside r.0 (contains_tail q qs r.0 r.1)) (pairs_head (λ a b. a < b) q qs up r.0 r.1)))
        (each_once qs (λ r there. inside r (contains_tail q qs r there)) (pairs_tail (λ a b. a < b) q qs up))

    all_in_order : (gs : List Hearing) → ((g : Hearing) → Contains gs g → Contains fresh g) → AreInTurn gs
    all_in_order [] inside = λ i j d less below. absurd (omega (arith, below))
    all_in_order (g ∷ gs) inside =
        pairs_cons (λ g k. reception_comes_before k g ≡ false) g gs
        (λ k there. in_order g k (inside g (contains_head g gs)) (inside k (contains_tail g gs k there)))
        (all_in_order gs (λ k there. inside k (contains_tail g gs k there)))

    once : AllPairs (λ g k. g ≢ k) (hearings_of new.air)
    once =
        subst (λ (l : List Hearing). AllPairs (λ g k. g ≢ k) l) (sym at_end.ends.hearings)
        (pairs_append (λ g k. g ≢ k) (hearings_of old.air) fresh has.once (each_once hearers (λ q there. there) at_end.ends.ascending) not_again)

    in_turn : AreInTurn (hearings_of new.air)
    in_turn =
        subst AreInTurn (sym at_end.ends.hearings)
        (pairs_append (λ g k. reception_comes_before k g ≡ false) (hearings_of old.air) fresh has.in_turn (all_in_order fresh (λ g there. there)) comes_first)

    -- what still runs comes later
    module _ (least : IsNext old_due (Some (t, SendingEnd, p))) where
      ends_later : (y : Sending) → StillRuns at_end y → IsEarlier x y
      ends_later y still = by_order (cases_lt t y.end)
        where
          after : IsNotAfter (t, SendingEnd, p) (y.end, SendingEnd, still.place)
          after = least.1 (y.end, SendingEnd, still.place) (shown_end still.setup t old old_due still.place still.device still.shows y still.sent)

          by_order : (t < y.end) ⊎ (y.end ≤ t) → IsEarlier x y
          by_order (inl less) = inl (omega (arith, at_end.now, less))
          by_order (inr late) =
              let same : t ≡ y.end = omega (arith, after.tick, late) in
              let place = after.place same refl in
              let other = still.other in
              inr (
                at_end.now ∙ same,
                ids_ascend (ids_of old) (ascending at_end) p still.place x.node y.node
                    (place_of_x at_end)
                    (place_of at_end y still)
                    (omega (arith, place, other)),
              )

      next_later : (g : Hearing) (y : Sending) → Contains (hearings_of new.air) g → Runs new.medium y
          → reception_comes_before g (record { node = y.node; sending = y }) ≡ true
      next_later g y there ran =
          let still = still_runs at_end y ran in
          elim (Contains-append_cases (hearings_of old.air) fresh g (subst (λ (l : List Hearing). Contains l g) at_end.ends.hearings there)) [
            | inl was ↦ has.next g y was (was_running at_end y still)
            | inr is ↦ comes_if g (record { node = y.node; sending = y }) (subst (λ (z : Sending). IsEarlier z y) (sym (of_x g is)) (ends_later y still))
          ]

      pub on_air_after : IsOnAir s (suc t) t new new_due
      on_air_after = record {
        scene = later;
        holds = scene_after s t [] old old_due new new_due a at_end.holds at_end.ends.air at_end.ends.same sent_same none_starts moves;
        has = record { heard = heard_by_rule; ended = ended_by; once = once; in_turn = in_turn; next = next_later };
      }

pub end_on_air : {s : ScenarioParts} {lines : Lines} {clocks : ℕ → ℕ → ℕ} {t p : ℕ} {x : Sending} {hearers : List ℕ} {old : FieldState}
    {old_due : List Due} {new : FieldState} {new_due : List Due} → EndsSending lines clocks t p x hearers old old_due new new_due
    → p < length old.devices → IsField old → AreTuned t old old_due → DeviceSends t old old_due p x → x.end ≡ t → lines ≡ s.trace
    → IsNext old_due (Some (t, SendingEnd, p)) → IsOnAir s (suc t) t old old_due → IsOnAir s (suc t) t new new_due
end_on_air ends within field all sends now trace least is =
    on_air_after
    (record { ends = ends; within = within; field = field; all = all; sends = sends; now = now; trace = trace; holds = is.holds }) is.has least
