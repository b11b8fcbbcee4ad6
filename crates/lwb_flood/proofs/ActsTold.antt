-- What an act tells.
use Rattle.std.proofs.Common.{◌≡◌, ℕ, List, Some, ◌∙◌, ap}
use Rattle.radio_model.specs.declared.sending.Sending.{Sending}
use Rattle.air_log.specs.FloodLaw.{sending_at}
use Rattle.lwb_flood.specs.declared.member.Act.{Act}
use Rattle.lwb_flood.specs.declared.member.Act.TheVariants.{Listens, Waits, Sends, Off}
use Rattle.lwb_flood.proofs.FloodSoFar.{sending_by}

pub waits_differ : (t : ℕ) (p : List ℕ) (x : Sending) → Waits t p ≡ Sends x → ⊥
waits_differ t p x is = absurd (cc)

pub waits_off : (t : ℕ) (p : List ℕ) → Waits t p ≡ Off → ⊥
waits_off t p is = absurd (cc)

same_tick : (t u : ℕ) (p q : List ℕ) → Waits t p ≡ Waits u q → t ≡ u
same_tick t u p q is = cc

same_packet : (t u : ℕ) (p q : List ℕ) → Waits t p ≡ Waits u q → p ≡ q
same_packet t u p q is = cc

pub same_waits : (v t u : ℕ) (p q : List ℕ) → Waits t p ≡ Waits u q → sending_at v t p ≡ sending_at v u q
same_waits v t u p q is = ap (λ (k : ℕ). sending_at v k p) (same_tick t u p q is) ∙ ap (λ (l : List ℕ). sending_at v u l) (same_packet t u p q is)

pub same_sends : (x y : Sending) → Sends x ≡ Sends y → x ≡ y
same_sends x y is = cc

pub sends_by : (act : Act) (x : Sending) → sending_by act ≡ Some x → act ≡ Sends x
sends_by Listens x is = absurd (cc)
sends_by (Waits t packet) x is = absurd (cc)
sends_by (Sends y) x is = cc
sends_by Off x is = absurd (cc)

pub listens_differ : (x : Sending) → Listens ≡ Sends x → ⊥
listens_differ x is = absurd (cc)

pub sends_off : (x : Sending) → Sends x ≡ Off → ⊥
sends_off x is = absurd (cc)
