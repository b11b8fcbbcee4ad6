-- The tunings of a trail: none is empty, they do not overlap, and two of one rank do not meet.
use Rattle.std.proofs.Common.{◌≡◌, ℕ, zero, suc, ◌<◌, ◌≤◌, List, [], ◌∷◌, Bool, true, false, ◌==◌, ◌&&◌, nat_lt, Some}
use Rattle.std.proofs.Common.{None, Option, refl, sym, ◌∙◌, arith, All, AllPairs, ltb-true, eqb-true, subst}
use Rattle.std.proofs.lemmas.Bool.{cond_both, and_parts, eq-eqb, eqb-false, true≢false}
use Rattle.std.proofs.lemmas.List.Elements.{All-cons, All-nil}
use Rattle.std.proofs.lemmas.List.Kept.{AllPairs-cons}
use Rattle.lwb_base.specs.declared.order.Order.{Order}
use Rattle.lwb_base.specs.declared.order.Order.TheVariants.{Listen, Off, SendAt, Alarm}
use Rattle.radio_model.specs.declared.sending.Sending.{Sending}
use Rattle.radio_model.specs.OnAir.{Tuning}
use Rattle.scenario_text.specs.ScenarioParts.{ScenarioParts}
use Rattle.bus_rules.specs.Cores.{Setup}
use Rattle.air_log.specs.Devices.{Device, Listening, OrderedPacket, obeyed, silenced, tunes, with_tuning, listens_to}
use Rattle.scenario_text.specs.Setups.{setup_of}
use Rattle.air_log.specs.Trails.{Reception, run_end, before_start, begun_by, starts, before_tick, trail}
use Rattle.air_log.specs.TrailEntries.{IsTunedBy, FollowsOn}
use Rattle.air_log.proofs.KeptByEvents.{IsKept, in_tick}

-- what comes before a tuning of this rank that begins at this tick
abbrev Apart : ℕ → ℕ → List Tuning → Type 0
Apart rank since [] = Unit {0}
Apart rank since (d ∷ ds) = d.rank ≡ rank → d.end < since

-- tunings that have ended by this tick, the last first
abbrev Ended : ℕ → ℕ → List Tuning → Type 0
Ended v t [] = Unit {0}
Ended v t (e ∷ es) = (e.node ≡ v) × (e.start < e.end) × (e.end ≤ t) × Apart e.rank e.start es × Ended v e.start es

abbrev Goes : ℕ → ℕ → Option Listening → List Tuning → Type 0
Goes v t None es = Ended v t es
Goes v t (Some l) es = (l.since ≤ t) × Apart l.rank l.since es × Ended v l.since es

ended_later : (v s t : ℕ) (es : List Tuning) → s ≤ t → Ended v s es → Ended v t es
ended_later v s t [] order all = tt
ended_later v s t (e ∷ es) order all = (all.0, all.1, omega (arith, all.2), all.3, all.4)

goes_later : (v s t : ℕ) (l : Option Listening) (es : List Tuning) → s ≤ t → Goes v s l es → Goes v t l es
goes_later v s t None es order all = ended_later v s t es order all
goes_later v s t (Some l) es order all = (omega (arith, all.0), all.1, all.2)

abbrev Tuned : ℕ → ℕ → Device → Type 0
Tuned v t d = Goes v t d.listening d.made.tuned

off_keeps : (v t : ℕ) (l : Option Listening) (es : List Tuning) → Goes v t l es → Ended v t (with_tuning v t l es)
off_keeps v t None es all = all
off_keeps v t (Some l) es all =
    cond_both (nat_lt l.since t) (record { rank = l.rank; node = v; start = l.since; end = t } ∷ es) es (Ended v t)
    (λ is. (refl, ltb-true l.since t is, omega arith, all.1, all.2))
    (λ is. ended_later v l.since t es all.0 all.2)

silent : (v t : ℕ) (d : Device) → Tuned v t d → Tuned v t (silenced v t d)
silent v t d all = off_keeps v t d.listening d.made.tuned all

-- a tuning that was not taken up again ended earlier, or is of another rank
ends_apart : (a b : Bool) (rank t : ℕ) (e : Tuning) → (e.rank == rank) ≡ a → (e.end == t) ≡ b → (a && b) ≡ false → e.end ≤ t → e.rank ≡ rank → e.end < t
ends_apart true true rank t e at_a at_b none by same = absurd (true≢false none)
ends_apart true false rank t e at_a at_b none by same = omega (arith, by, eqb-false e.end t at_b)
ends_apart false b rank t e at_a at_b none by same = absurd (true≢false (sym (eq-eqb e.rank rank same) ∙ at_a))

on_keeps : (v t rank : ℕ) (d : Device) (es : List Tuning) → d.made.tuned ≡ es → Ended v t es → Tuned v t (tunes rank t d es)
on_keeps v t rank d [] at all = (omega arith, rw at tt, rw at tt)
on_keeps v t rank d (e ∷ es) at all =
    cond_both ((e.rank == rank) && (e.end == t)) _ _ (Tuned v t)
    (λ is.
    let same : e.rank ≡ rank = eqb-true e.rank rank (and_parts _ _ is).0 in
    (omega (arith, all.1, all.2), subst (λ (r : ℕ). Apart r e.start es) same all.3, all.4))
    (λ is. (omega arith, rw at (ends_apart (e.rank == rank) (e.end == t) rank t e refl refl is all.2), rw at all))

by_order : (clock : ℕ → ℕ) (v t : ℕ) (d : Device) (o : Order) → Tuned v t d → Tuned v t (obeyed clock v t d o)
by_order clock v t d (Listen rank) all =
    let x = silenced v t d in
    cond_both (listens_to rank d.listening) d (tunes rank t x x.made.tuned) (Tuned v t) (λ is. all)
    (λ is. on_keeps v t rank x x.made.tuned refl (silent v t d all))
by_order clock v t d Off all = silent v t d all
by_order clock v t d (SendAt local packet) all = all
by_order clock v t d (Alarm local) all = all

kept : (clock : ℕ → ℕ) (s : Setup) (t : ℕ) → IsKept (Tuned s.id t) clock s t
kept clock s t = record {
  obeying = by_order clock s.id t;
  moving = λ e x d n r all. all;
  powered = λ d p all. all;
  without_alarm = λ d all. all;
  off = λ d boots all. silent s.id t d all;
  after_sending = λ d all. all;
}

-- the start of a transmission leaves the radio on
begun_tuned : (s : Setup) (t : ℕ) (P : Option Listening → List Tuning → Type 0) (d : Device) (o : Option OrderedPacket) → P d.listening d.made.tuned
    → P (begun_by s t d o).listening (begun_by s t d o).made.tuned
begun_tuned s t P d None all = all
begun_tuned s t P d (Some o) all =
    cond_both (o.tick == t) (starts s t o.packet d d.listening d.sending) d (λ (x : Device). P x.listening x.made.tuned)
    (λ is. starts_tuned d.listening d.sending refl all) (λ is. all)
  where
    starts_tuned : (l : Option Listening) (y : Option Sending) → d.listening ≡ l → P d.listening d.made.tuned
        → P (starts s t o.packet d l y).listening (starts s t o.packet d l y).made.tuned
    starts_tuned None y is all = all
    starts_tuned (Some l) None is all = all
    starts_tuned (Some l) (Some y) is all = all

module _ (s : ScenarioParts) (v : ℕ) (clock : ℕ → ℕ) (hs : List Reception) where
  at_tick : (t : ℕ) → Tuned v t (before_tick s v clock hs t)
  unfolding before_tick
  at_tick zero = tt
  at_tick (suc t) =
      let d = before_tick s v clock hs t in
      let x = before_start s v clock hs t d in
      let within = in_tick (Tuned v t) s v clock hs t d (kept clock (setup_of s v) t) (at_tick t) in
      goes_later v t (suc t) _ _ (omega arith) (begun_tuned (setup_of s v) t (Goes v t) x x.ordered within)

  in_trail : Ended v (run_end s) (trail s v clock hs).made.tuned
  in_trail = silent v (run_end s) (before_tick s v clock hs (run_end s)) (at_tick (run_end s))

  each_ended : (t : ℕ) (es : List Tuning) → Ended v t es → All (IsTunedBy v t) es
  each_ended t [] all = All-nil (IsTunedBy v t)
  each_ended t (e ∷ es) all =
      All-cons (IsTunedBy v t) e es (record { node = all.0; some = all.1; by = all.2 })
      (each_ended t es (ended_later v e.start t es (omega (arith, all.1, all.2)) all.4))

  pub each_tuned : All (IsTunedBy v (run_end s)) (trail s v clock hs).made.tuned
  each_tuned = each_ended (run_end s) (trail s v clock hs).made.tuned in_trail

  ends_by : (r since : ℕ) (e : Tuning) (es : List Tuning) → e.rank ≡ r → e.start ≡ since → Apart r since es → Ended v since es → All (FollowsOn e) es
  ends_by r since e [] of at apart all = All-nil (FollowsOn e)
  ends_by r since e (d ∷ ds) of at apart all =
      All-cons (FollowsOn e) d ds
      (record { after = omega (arith, at, all.2); apart = λ same. rw at (apart (same ∙ of)) })
      (each_before d.start ds (omega (arith, at, all.1, all.2)) all.4)
    where
      each_before : (t : ℕ) (ds : List Tuning) → t < e.start → Ended v t ds → All (FollowsOn e) ds
      each_before t [] less all = All-nil (FollowsOn e)
      each_before t (d ∷ ds) less all =
          All-cons (FollowsOn e) d ds
          (record { after = omega (arith, less, all.2); apart = λ same. omega (arith, less, all.2) })
          (each_before d.start ds (omega (arith, less, all.1, all.2)) all.4)

  in_turn : (t : ℕ) (es : List Tuning) → Ended v t es → AllPairs FollowsOn es
  in_turn t [] all = λ i j d less within. absurd (omega (arith, within))
  in_turn t (e ∷ es) all = AllPairs-cons FollowsOn e es (ends_by e.rank e.start e es refl refl all.3 all.4) (in_turn e.start es all.4)

  pub tuned_in_turn : AllPairs FollowsOn (trail s v clock hs).made.tuned
  tuned_in_turn = in_turn (run_end s) (trail s v clock hs).made.tuned in_trail
