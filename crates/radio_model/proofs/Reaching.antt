-- What a mask of nodes tells of one of them.
use Rattle.std.proofs.Common.{◌≡◌, ℕ, List, Bool}
use Rattle.std.proofs.Common.{◌&&◌, ◌==◌, nat_lt, get_or, length, if◌then◌else◌, ◌∙◌, ap}
use Rattle.std.proofs.lemmas.Bool.{lt-ltb}
use Rattle.std.specs.Int.{bit_at}
use Rattle.lwb_base.proofs.Truths.{of_bit}
use Rattle.link_trace.specs.Masks.{IsMaskAmong}
use Rattle.radio_model.specs.Meetings.{IsPlaceOf}

pub bit_tells : (nodes : List ℕ) (test : ℕ → Bool) (among mask place node : ℕ) → IsMaskAmong test nodes among mask → IsPlaceOf nodes place node
    → bit_at among place ≡ 1 → (bit_at mask place == 1) ≡ test node
bit_tells nodes test among mask place node is placed there =
    ap (λ (n : ℕ). n == 1) (is place
    ∙ ap (λ (b : ℕ). if (b == 1) && (nat_lt place (length nodes) && test (get_or nodes place 0)) then 1 else 0) there
    ∙ ap (λ (b : Bool). if b && test (get_or nodes place 0) then 1 else 0) (lt-ltb place (length nodes) placed.below))
    ∙ of_bit (test (get_or nodes place 0)) ∙ ap test placed.there
