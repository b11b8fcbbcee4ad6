use Rattle.std.proofs.Common.{ℕ, Bool, not, ◌&&◌}
use Rattle.link_trace.specs.Masks.{IsMask, IsMaskUpto}
use Rattle.link_trace.specs.Passes.{captured}
use Rattle.radio_model.specs.Hearing.{frame_of_sending, slot_of_sending, counter_of_sending}
use Rattle.radio_model.specs.Receptions.{is_captured}
use Rattle.radio_model.proofs.receivers.lost.Given as goal

abbrev pub invariant-loop-i : goal.invariant-loop-i
invariant-loop-i l =
    (m : ℕ → Bool) → IsMask m l.nodes l.mixed → IsMaskUpto (λ v. m v && not (is_captured l.profile l.trace.lines v l.x l.near
    (captured l.trace.lines (frame_of_sending l.profile l.x) (slot_of_sending l.x) (counter_of_sending l.x) v))) l.nodes l.i l.places
