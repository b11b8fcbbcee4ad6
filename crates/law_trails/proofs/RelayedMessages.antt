-- A relay says what was received, and so do packets of one profile: the rules by which the packets of a node keep to it.
use Rattle.std.proofs.Common.{◌≡◌, ℕ, ◌+◌, ◌≤◌, List, length, Some, sym, ◌∙◌, ap, subst, arith}
use Rattle.glossy_relay.specs.FloodState.{FloodState}
use Rattle.glossy_relay.specs.Relaying.{counter_of, reply_to}
use Rattle.glossy_relay.specs.declared.flood.Reply.TheVariants.{Relay}
use Rattle.glossy_relay.proofs.CountedPackets.{relayed_parts}
use Rattle.bus_rules.specs.Cores.{Setup}
use Rattle.lwb_member.specs.Said.{message_of}
use Rattle.lwb_member.proofs.Told.{told}
use Rattle.law_trails.specs.PacketKinds.{IsOfProfile}
use Rattle.law_trails.specs.SpokenRanges.{IsSpoken, IsFitting, IsProper}
use Rattle.law_trails.proofs.SpokenInRange.{own_spoken, relay_spoken}
use Rattle.law_trails.proofs.RowsInRange.{AreRules}
use Rattle.law_trails.proofs.OtherCounters.{same_again}

relay_says : (f : FloodState) (h q : List ℕ) → reply_to f h ≡ Relay q → message_of q ≡ message_of h
relay_says f h q is =
    let parts = relayed_parts f h q is in
    let less = parts.1 in
    ap message_of parts.2 ∙ same_again h (counter_of h + 1) (omega arith) (omega arith)

-- what is ordered and sent says what may be said, where what is received is not too long
pub spoken_rules : (s : Setup) → AreRules s (IsSpoken s.profile) (λ q. length q ≤ s.profile.packet_max)
spoken_rules s = record {
  short = λ q few. few;
  own = λ k j m is. own_spoken s.profile m j is.may is.short;
  relay = λ f h q relays few. relay_spoken s.profile f h q relays few;
}

-- and it is of the profile, where what is received is
pub proper_rules : (s : Setup) → AreRules s (IsProper s.profile) (IsFitting s.profile)
proper_rules s = record {
  short = λ q fit. fit.most;
  own = λ k j m is. record {
    spoken = own_spoken s.profile m j is.may is.short;
    of_profile = λ x read. (let same : Some m ≡ Some x = sym (told m j is.may) ∙ read in let this : m ≡ x = cc in
        subst (IsOfProfile s.profile) this is.of_profile);
  };
  relay = λ f h q relays fit. record {
    spoken = relay_spoken s.profile f h q relays fit.most;
    of_profile = λ x read. fit.of_profile x (sym (relay_says f h q relays) ∙ read);
  };
}
