-- The transmissions of a trail: each begins after the one before it.
use Rattle.std.proofs.Common.{ℕ, zero, suc, List, [], ◌∷◌, ◌++◌, ◌==◌, Some, None, Option, refl, arith, All, AllPairs}
use Rattle.std.proofs.lemmas.Bool.{cond_both}
use Rattle.std.proofs.lemmas.List.Elements.{All-nil, All-push, All-head, All-tail}
use Rattle.std.proofs.lemmas.List.Kept.{AllPairs-cons}
use Rattle.lwb_base.specs.declared.order.Order.{Order}
use Rattle.lwb_base.specs.declared.order.Order.TheVariants.{Listen, Off, SendAt, Alarm}
use Rattle.radio_model.specs.OnAir.{Tuning}
use Rattle.radio_model.specs.declared.sending.Sending.{Sending}
use Rattle.scenario_text.specs.ScenarioParts.{ScenarioParts}
use Rattle.bus_rules.specs.Cores.{Setup}
use Rattle.air_log.specs.Devices.{Device, Listening, OrderedPacket, obeyed, silenced, tunes, listens_to}
use Rattle.scenario_text.specs.Setups.{setup_of}
use Rattle.air_log.specs.Trails.{Reception, run_end, before_start, begun_by, starts, sending_from, before_tick, trail}
use Rattle.air_log.specs.TrailEntries.{IsSentBefore, StartsBefore}
use Rattle.air_log.proofs.KeptByEvents.{IsKept, in_tick}

module _ (Q : List Sending → Type 0) where
  on_keeps : (rank t : ℕ) (d : Device) (es : List Tuning) → Q d.made.sent → Q (tunes rank t d es).made.sent
  on_keeps rank t d [] all = all
  on_keeps rank t d (e ∷ es) all = cond_both _ _ _ (λ (x : Device). Q x.made.sent) (λ is. all) (λ is. all)

  by_order : (clock : ℕ → ℕ) (v t : ℕ) (d : Device) (o : Order) → Q d.made.sent → Q (obeyed clock v t d o).made.sent
  by_order clock v t d (Listen rank) all =
      let x = silenced v t d in
      cond_both (listens_to rank d.listening) d (tunes rank t x x.made.tuned) (λ (y : Device). Q y.made.sent) (λ is. all)
      (λ is. on_keeps rank t x x.made.tuned all)
  by_order clock v t d Off all = all
  by_order clock v t d (SendAt local packet) all = all
  by_order clock v t d (Alarm local) all = all

  pub kept_sent : (clock : ℕ → ℕ) (s : Setup) (t : ℕ) → IsKept (λ d. Q d.made.sent) clock s t
  kept_sent clock s t = record {
    obeying = by_order clock s.id t;
    moving = λ e x d n r all. all;
    powered = λ d p all. all;
    without_alarm = λ d all. all;
    off = λ d boots all. all;
    after_sending = λ d all. all;
  }

-- one more that comes after all
module _ {X : Type 0} (R : X → X → Type 0) where
  pub pairs_push : (xs : List X) (y : X) → AllPairs R xs → All (λ x. R x y) xs → AllPairs R (xs ++ y ∷ [])
  pairs_push [] y pairs last = λ i j d less within. absurd (omega (arith, less, within))
  pairs_push (x ∷ xs) y pairs last =
      AllPairs-cons R x (xs ++ y ∷ [])
      (All-push (R x) xs y (λ k d less. pairs zero (suc k) d (omega arith) (omega (arith, less))) (All-head (λ z. R z y) x xs last))
      (pairs_push xs y (λ i j d less within. pairs (suc i) (suc j) d (omega (arith, less)) (omega (arith, within))) (All-tail (λ z. R z y) x xs last))

module _ (s : ScenarioParts) (v : ℕ) where
  abbrev Before : ℕ → List Sending → Type 0
  Before t xs = All (IsSentBefore s v t) xs × AllPairs StartsBefore xs

  later : (t : ℕ) (xs : List Sending) → Before t xs → Before (suc t) xs
  later t xs all = (λ k x less. (let is = all.0 k x less in record { node = is.node; before = omega (arith, is.before); lasts = is.lasts }), all.1)

  one_more : (t : ℕ) (packet : List ℕ) (l : Listening) (xs : List Sending) → Before t xs → Before (suc t) (xs ++ sending_from (setup_of s v) t packet l ∷ [])
  one_more t packet l xs all =
      let x = sending_from (setup_of s v) t packet l in (
        All-push (IsSentBefore s v (suc t)) xs x (later t xs all).0 (record { node = refl; before = omega arith; lasts = refl }),
        pairs_push StartsBefore xs x all.1 (λ k y less. (all.0 k y less).before),
      )

  by_start : (t : ℕ) (packet : List ℕ) (d : Device) (l : Option Listening) (y : Option Sending) → Before t d.made.sent
      → Before (suc t) (starts (setup_of s v) t packet d l y).made.sent
  by_start t packet d None y all = later t d.made.sent all
  by_start t packet d (Some l) (Some y) all = later t d.made.sent all
  by_start t packet d (Some l) None all = one_more t packet l d.made.sent all

  by_begun : (t : ℕ) (d : Device) (o : Option OrderedPacket) → Before t d.made.sent → Before (suc t) (begun_by (setup_of s v) t d o).made.sent
  by_begun t d None all = later t d.made.sent all
  by_begun t d (Some o) all =
      cond_both (o.tick == t) (starts (setup_of s v) t o.packet d d.listening d.sending) d (λ (x : Device). Before (suc t) x.made.sent)
      (λ is. by_start t o.packet d d.listening d.sending all) (λ is. later t d.made.sent all)

  pub at_tick : (clock : ℕ → ℕ) (hs : List Reception) (t : ℕ) → Before t (before_tick s v clock hs t).made.sent
  unfolding before_tick
  at_tick clock hs zero = (All-nil (IsSentBefore s v zero), λ i j d less within. absurd (omega (arith, within)))
  at_tick clock hs (suc t) =
      let d = before_tick s v clock hs t in
      let x = before_start s v clock hs t d in
      by_begun t x x.ordered (in_tick (λ y. Before t y.made.sent) s v clock hs t d (kept_sent (Before t) clock (setup_of s v) t) (at_tick clock hs t))

  pub in_order : (clock : ℕ → ℕ) (hs : List Reception) → AllPairs StartsBefore (trail s v clock hs).made.sent
  in_order clock hs = (at_tick clock hs (run_end s)).1

  pub each_sent : (clock : ℕ → ℕ) (hs : List Reception) → All (IsSentBefore s v (run_end s)) (trail s v clock hs).made.sent
  each_sent clock hs = (at_tick clock hs (run_end s)).0
