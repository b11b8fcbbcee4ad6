-- The losses of floods, one after another.
use Rattle.std.proofs.Common.{◌≡◌, ◌<◌, ◌+◌, ℕ, suc, zero, List, [], ◌∷◌, ◌++◌, Option, Some, None, flat_map, map, take, length, get_or}
use Rattle.std.proofs.Common.{refl, subst, sym, ◌∙◌, ap, arith, add-one, append-nil, append_assoc}
use Rattle.std.specs.List.{range_with_len}
use Rattle.std.specs.Option.{option_map_or}
use Rattle.std.proofs.lemmas.Grind.{flat_map-append}
use Rattle.std.proofs.lemmas.List.Folds.{flat_map-map}
use Rattle.lwb_base.specs.Messages.{Plan}
use Rattle.scenario_text.specs.ScenarioParts.{ScenarioParts}
use Rattle.bus_terms.specs.Bus.{ranks_of, state_at}
use Rattle.bus_terms.specs.FloodOfText.{ids}
use Rattle.bus_terms.specs.Rounds.{round_plan, slots_of}
use Rattle.link_trace.specs.Passes.{Lines}
use Rattle.link_trace.specs.Sealed.{Traced}
use Rattle.link_trace.specs.declared.lines.LoseLine.{LoseLine}
use Rattle.plain_bus.specs.RunFloods.{AreRunFloods, IsRunFlood, SlotFlood, slot_flood}
use Rattle.plain_bus.specs.declared.station.Flood.{Flood}
use Rattle.bus_model.specs.FrameFloods.{frame_floods, round_floods}
use Rattle.drawn_bus.specs.FloodLosses.{losses_of_flood, losses_of_round}
use Rattle.drawn_bus.specs.KeptLosses.{flood_in_round}
use Rattle.drawn_losses.specs.StepLosses.{losses_of_floods, losses_of_frame}

pub run_size : (t : Traced) (f : ℕ) (ys : List SlotFlood) (xs : List Flood) → AreRunFloods t f ys xs → length ys ≡ length xs
run_size t f [] [] ran = refl
run_size t f [] (x ∷ xs) ran = absurd ran
run_size t f (y ∷ ys) [] ran = absurd ran
run_size t f (y ∷ ys) (x ∷ xs) ran = ap (λ (n : ℕ). suc n) (run_size t f ys xs ran.1)

-- the flood at a place
run_at : (t : Traced) (f : ℕ) (ys : List SlotFlood) (xs : List Flood) (i : ℕ) (d : Flood) → AreRunFloods t f ys xs → i < length xs
    → (y : SlotFlood) × (take (suc i) ys ≡ take i ys ++ y ∷ []) × IsRunFlood t f y (get_or xs i d)
run_at t f [] [] i d ran below = absurd (omega (arith, below))
run_at t f [] (x ∷ xs) i d ran below = absurd ran
run_at t f (y ∷ ys) [] i d ran below = absurd ran
run_at t f (y ∷ ys) (x ∷ xs) zero d ran below = (y, refl, ran.0)
run_at t f (y ∷ ys) (x ∷ xs) (suc i) d ran below =
    let r = run_at t f ys xs i d ran.1 (omega (arith, below)) in
    (r.0, ap (λ (l : List SlotFlood). y ∷ l) r.1, r.2)

-- with the losses of one flood more
pub floods_more : (base : Lines) (t : Traced) (f : ℕ) (ys : List SlotFlood) (xs : List Flood) (i : ℕ) (x : Flood) (old now new : List LoseLine)
    → AreRunFloods t f ys xs → i < length xs → x ≡ get_or xs i x
    → now ≡ old ++ losses_of_floods base f t.nodes (take i ys)
    → ((y : SlotFlood) → IsRunFlood t f y x → new ≡ now ++ losses_of_flood base x.frame x.slot t.nodes y.flood)
    → new ≡ old ++ losses_of_floods base f t.nodes (take (i + 1) ys)
floods_more base t f ys xs i x old now new ran below is before adds =
    let r = run_at t f ys xs i x ran below in
    let y = r.0 in
    let one : IsRunFlood t f y x = subst (λ (z : Flood). IsRunFlood t f y z) (sym is) r.2 in
    let lost : List LoseLine = losses_of_flood base f y.slot t.nodes y.flood in
    adds y one
    ∙ ap (λ (n : ℕ). now ++ losses_of_flood base n x.slot t.nodes y.flood) one.frame
    ∙ ap (λ (n : ℕ). now ++ losses_of_flood base f n t.nodes y.flood) one.slot
    ∙ ap (λ (l : List LoseLine). l ++ lost) before
    ∙ append_assoc old (losses_of_floods base f t.nodes (take i ys)) lost
    ∙ ap (λ (l : List LoseLine). old ++ l)
    (ap (λ (l : List LoseLine). losses_of_floods base f t.nodes (take i ys) ++ l) (sym (append-nil lost))
    ∙ sym (flat_map-append (λ (z : SlotFlood). losses_of_flood base f z.slot t.nodes z.flood) (take i ys) (y ∷ []))
    ∙ ap (losses_of_floods base f t.nodes) (sym (ap (λ (n : ℕ). take n ys) (add-one i) ∙ r.1)))

-- those of a frame are those of its rounds
module _ (s d : ScenarioParts) (f : ℕ) where
  abbrev lost : SlotFlood → List LoseLine
  lost y = losses_of_flood s.trace f y.slot (ids s.nodes) y.flood

  round_lost : (rank : ℕ) → flat_map lost (round_floods d rank f (state_at d f)) ≡ losses_of_round s d rank f
  round_lost rank = by_plan (round_plan d rank f (state_at d f))
    where
      by_plan : (o : Option Plan) → flat_map lost (option_map_or (λ p. map (slot_flood d rank f p (state_at d f)) (slots_of p)) o [])
          ≡ option_map_or (λ p. flat_map (λ j. losses_of_flood s.trace f j (ids s.nodes) (flood_in_round d rank f p j)) (slots_of p)) o []
      by_plan None = refl
      by_plan (Some p) = flat_map-map lost (slot_flood d rank f p (state_at d f)) (slots_of p)

  ranks_lost : (ranks : List ℕ) → flat_map lost (flat_map (λ rank. round_floods d rank f (state_at d f)) ranks)
      ≡ flat_map (λ rank. losses_of_round s d rank f) ranks
  ranks_lost [] = refl
  ranks_lost (rank ∷ ranks) =
      let rest = flat_map (λ (r : ℕ). round_floods d r f (state_at d f)) ranks in
      flat_map-append lost (round_floods d rank f (state_at d f)) rest
      ∙ ap (λ (l : List LoseLine). l ++ flat_map lost rest) (round_lost rank)
      ∙ ap (λ (l : List LoseLine). losses_of_round s d rank f ++ l) (ranks_lost ranks)

  pub frame_lost : d.hosts ≡ s.hosts → losses_of_floods s.trace f (ids s.nodes) (frame_floods d f (state_at d f)) ≡ losses_of_frame s d f
  frame_lost same =
      ranks_lost (ranks_of d) ∙ ap (λ (hosts : List ℕ). flat_map (λ rank. losses_of_round s d rank f) (range_with_len 0 (length hosts))) same
