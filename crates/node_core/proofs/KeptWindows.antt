-- What holds of a window holds when a packet was received in it.
use Rattle.std.proofs.Common.{◌≡◌, ℕ, ◌^◌, ◌<◌, ◌&&◌, List, Option, Some, None, true, not, ◌==◌, nat_lt, is_none, refl, ◌∙◌, subst, arith}
use Rattle.std.proofs.lemmas.Bool.{cond_both, and_parts}
use Rattle.std.specs.Option.{IfSome}
use Rattle.lwb_base.specs.Profile.{Numbers}
use Rattle.lwb_packets.specs.declared.kind.Kind.{Kind}
use Rattle.glossy_relay.specs.FloodState.{FloodState}
use Rattle.glossy_relay.specs.Relaying.{fits, is_spelling, slot_of, carries, after_heard, first_of, counter_of, accepted_of}
use Rattle.glossy_relay.proofs.CountedPackets.{begun_here}
use Rattle.bus_rules.specs.Cores.{Core}
use Rattle.lwb_member.specs.Said.{message_of}
use Rattle.node_core.specs.Windows.{Window}
use Rattle.node_core.specs.Nodes.{zero_from}
use Rattle.bus_rules.specs.Slots.{is_schedule_part}
use Rattle.lwb_member.specs.Places.{kind_for}
use Rattle.node_core.specs.Rows.{is_foreign, hearing, is_ignored, reply_by}
use Rattle.node_core.specs.declared.stage.Stage.TheVariants.{InWindow}
use Rattle.node_core.specs.Standing.{IsWindow, HostsIn}

-- what a flood of this kind carries is a spelling of it
abbrev pub Carries : Kind → FloodState → Type 0
Carries k f = (f.kind ≡ k) × IfSome f.first (λ p. is_spelling k p ≡ true)

spelled : (f : FloodState) (p : List ℕ) → fits f p ≡ true → is_spelling f.kind p ≡ true
spelled f p is =
    let room = nat_lt f.sent f.limit && not f.waiting in
    let all = and_parts (room && is_spelling f.kind p && (slot_of p == f.slot)) (carries f.first p) is in
    let three = and_parts (room && is_spelling f.kind p) (slot_of p == f.slot) all.0 in
    (and_parts room (is_spelling f.kind p) three.0).1

first_carried : (k : Kind) (first : Option (List ℕ)) (p : List ℕ) → is_spelling k p ≡ true → IfSome first (λ q. is_spelling k q ≡ true)
    → IfSome (first_of first p) (λ q. is_spelling k q ≡ true)
first_carried k None p is had = is
first_carried k (Some q) p is had = had

pub carried : (k : Kind) (f : FloodState) (p : List ℕ) → Carries k f → Carries k (after_heard f p)
carried k f p (same, had) =
    cond_both (fits f p) (record f { waiting = nat_lt (counter_of p) 11; first = first_of f.first p }) f (Carries k)
    (λ is. (same, first_carried k f.first p (subst (λ (x : Kind). is_spelling x p ≡ true) same (spelled f p is)) had))
    (λ is. (same, had))

pub hearing_stands : (p : Numbers) (rank now j : ℕ) (c : Core) (w : Window) (q : List ℕ) → now < 2 ^ 46 → IsWindow c j w → IsWindow c j (hearing p rank now w q)
hearing_stands p rank now j c w q early is =
    let after : Carries (kind_for w.part) (hearing p rank now w q).flood =
    cond_both (is_foreign rank (message_of q)) w.flood (after_heard w.flood q) (Carries (kind_for w.part))
    (λ foreign. (is.kind, is.carried))
    (λ own. carried (kind_for w.part) w.flood q (is.kind, is.carried)) in
    let test = is_schedule_part w.part && not (is_ignored (reply_by rank w q)) && is_none (accepted_of w.flood) && not w.flood.initiated in
    record {
      next = is.next;
      kind = after.0;
      carried = after.1;
      reference =
          cond_both test (Some (zero_from p now q)) w.reference (λ (o : Option ℕ). IfSome o (λ z. z < 2 ^ 47)) (λ first. omega arith) (λ not. is.reference);
      inside = is.inside;
    }

-- a host that says the schedules of its round itself goes on doing so
pub hearing_hosted : (p : Numbers) (rank now frame j : ℕ) (c : Core) (w : Window) (q : List ℕ) → HostsIn frame c (InWindow j w)
    → HostsIn frame c (InWindow j (hearing p rank now w q))
hearing_hosted p rank now frame j c w q hosted =
    let same : (hearing p rank now w q).flood.initiated ≡ w.flood.initiated =
    cond_both (is_foreign rank (message_of q)) w.flood (after_heard w.flood q) (λ (g : FloodState). g.initiated ≡ w.flood.initiated) (λ foreign. refl)
    (λ own. begun_here w.flood q) in
    (hosted.0, λ host is. same ∙ hosted.1 host is)
