-- A node without script lines is off in every frame and every slot, so it says nothing.
use Rattle.std.proofs.Common.{◌≡◌, ◌+◌, ℕ, zero, suc, List, [], false, Option, Some, None, fold, is_some, refl, ◌∙◌, ap}
use Rattle.law_service.proofs.Words.{Plan, ScenarioParts, ScriptLine, Part, frame_ended, last_slot, Message, part_of, State, StateOff, at_core, before_frame}
use Rattle.law_service.proofs.Words.{state_at, node_before, slot_in, accepted_at, after_round, before_slot, closed_slot_of, left_by, message_said, opened_at}
use Rattle.law_service.proofs.Words.{rank_in, round_plan, rounds, slot_at, setup_of, lines_of, state_after_line}

module _ (s : ScenarioParts) (v : ℕ) (none : (f : ℕ) → lines_of s f v ≡ []) where
  left_off : (f : ℕ) (heard : Option Message) (x : State) (part : Part) (rank : ℕ) → x ≡ StateOff 0
      → left_by x (closed_slot_of s f part v (opened_at s rank f part v x) heard x) ≡ StateOff 0
  left_off f None x part rank off = rw off refl
  left_off f (Some m) x part rank off = rw off refl

  slots_off : (rank f : ℕ) (p : Plan) (states : ℕ → State) → states v ≡ StateOff 0 → (j : ℕ) → before_slot s rank f p states j v ≡ StateOff 0
  unfolding before_slot
  slots_off rank f p states off zero = off
  slots_off rank f p states off (suc j) =
      left_off f (accepted_at (slot_at s rank f p states j) v) (before_slot s rank f p states j v) (part_of p j) rank (slots_off rank f p states off j)

  rounds_off : (f : ℕ) (states : ℕ → State) → states v ≡ StateOff 0 → rounds s f states v ≡ StateOff 0
  rounds_off f states off = by_plan (rank_in (states v)) (round_plan s (rank_in (states v)) f states)
    where
      by_plan : (rank : ℕ) (o : Option Plan) → after_round s rank f states o v ≡ StateOff 0
      by_plan rank None = off
      by_plan rank (Some p) = slots_off rank f p states off (last_slot p + 1)

  told_off : (f : ℕ) (x : State) → x ≡ StateOff 0 → fold state_after_line x (lines_of s f v) ≡ StateOff 0
  told_off f x off = ap (λ (ls : List ScriptLine). fold state_after_line x ls) (none f) ∙ off

  before_off : (f : ℕ) → before_frame s f v ≡ StateOff 0
  unfolding before_frame
  before_off zero = refl
  before_off (suc f) =
      ap (λ (x : State). at_core (frame_ended (setup_of s v) f) x)
      (rounds_off f (state_at s f) (told_off f (before_frame s f v) (before_off f)))

  pub is_off : (rank f : ℕ) (p : Plan) (j : ℕ) → node_before s rank f p j v ≡ StateOff 0
  is_off rank f p = slots_off rank f p (state_at s f) (told_off f (before_frame s f v) (before_off f))

  -- so where somebody says something, it is another
  pub says_none : (rank f : ℕ) (p : Plan) (j : ℕ) → is_some (message_said ((slot_in s rank f p j).window v)) ≡ false
  says_none rank f p j = ap (λ (x : State). is_some (message_said (opened_at s rank f (part_of p j) v x))) (is_off rank f p j)
