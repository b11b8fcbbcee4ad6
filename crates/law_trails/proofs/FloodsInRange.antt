-- A flood stays in its ranges: where it begins, where it receives, and where it sends.
use Rattle.std.proofs.Common.{◌≡◌, ℕ, ◌≤◌, List, length, true, nat_lt, Some, None, Option, IfSome}
use Rattle.std.proofs.Common.{refl, ◌∙◌, subst, arith}
use Rattle.std.proofs.lemmas.Bool.{cond_both}
use Rattle.lwb_packets.specs.declared.kind.Kind.{Kind}
use Rattle.glossy_relay.specs.FloodState.{FloodState, listening, initiating}
use Rattle.glossy_relay.specs.Relaying.{is_spelling, counter_of, fits, first_of, after_heard, after_sent}
use Rattle.bus_rules.specs.Cores.{Setup}
use Rattle.bus_rules.specs.Slots.{Message}
use Rattle.lwb_member.specs.Said.{bytes_of}
use Rattle.lwb_member.proofs.Lengths.{said_long}
use Rattle.law_trails.specs.NodeRanges.{IsCarried, IsFloodOfSlot}
use Rattle.law_trails.proofs.SpokenInRange.{said_is, said_slot, fitting}
use Rattle.law_trails.proofs.SaidInRange.{IsSayable}

-- a flood
module _ (s : Setup) (k : Kind) (j : ℕ) where
  pub listening_is : IsFloodOfSlot s k j (listening k j s.sends)
  listening_is = record { kind = refl; slot = refl; limit = refl; sent = omega arith; waiting = λ waits. absurd (cc); first = tt }

  pub initiating_is : (m : Message) → 1 ≤ s.sends → IsSayable s k j m → IsFloodOfSlot s k j (initiating (bytes_of m j) s.sends)
  initiating_is m some is =
      let said = said_is m j is.may in
      record {
        kind = said.named ∙ is.kind;
        slot = said_slot m j;
        limit = refl;
        sent = omega arith;
        waiting = λ waits. omega arith;
        first = record {
          spelled = subst (λ (x : Kind). is_spelling x (bytes_of m j) ≡ true) is.kind said.spelled;
          slot = said_slot m j;
          most = omega (arith, said_long m j, is.short);
        };
      }

  first_is : (P : List ℕ → Type 0) (first : Option (List ℕ)) (q : List ℕ) → P q → IfSome first P → IfSome (first_of first q) P
  first_is P None q new old = new
  first_is P (Some x) q new old = old

  pub heard_is : (f : FloodState) (q : List ℕ) → length q ≤ s.profile.packet_max → IsFloodOfSlot s k j f → IsFloodOfSlot s k j (after_heard f q)
  heard_is f q few is =
      cond_both (fits f q) (record f { waiting = nat_lt (counter_of q) 11; first = first_of f.first q }) f (IsFloodOfSlot s k j)
      (λ fit.
      let parts = fitting f q fit in
      record {
        kind = is.kind;
        slot = is.slot;
        limit = is.limit;
        sent = is.sent;
        waiting = λ waits. parts.2;
        first = first_is (IsCarried s k j) f.first q (record {
          spelled = subst (λ (x : Kind). is_spelling x q ≡ true) is.kind parts.0;
          slot = parts.1 ∙ is.slot;
          most = few;
        }) is.first;
      })
      (λ other. is)

  pub sent_is : (f : FloodState) → f.waiting ≡ true → IsFloodOfSlot s k j f → IsFloodOfSlot s k j (after_sent f)
  sent_is f waits is = let less = is.waiting waits in record {
    kind = is.kind;
    slot = is.slot;
    limit = is.limit;
    sent = omega arith;
    waiting = λ more. absurd (cc);
    first = is.first;
  }

-- what reception leaves as it was
pub heard_first : (P : List ℕ → Type 0) (f : FloodState) (q : List ℕ) → P q → IfSome f.first P → IfSome (after_heard f q).first P
heard_first P f q new old =
    cond_both (fits f q) (record f { waiting = nat_lt (counter_of q) 11; first = first_of f.first q }) f (λ (g : FloodState). IfSome g.first P)
    (λ is. by_first f.first old)
    (λ is. old)
  where
    by_first : (first : Option (List ℕ)) → IfSome first P → IfSome (first_of first q) P
    by_first None had = new
    by_first (Some x) had = had
