use Rattle.std.proofs.Common.{◌≡◌, ◌<◌, ◌≤◌, ◌+◌, None, ◌∙◌, ap, subst, sym, rules}
use Rattle.bus_rules.specs.Plans.{last_slot}
use Rattle.bus_rules.specs.Slots.{closed_slot}
use Rattle.bus_rules.specs.declared.part.Part.{Part}
use Rattle.lwb_member.specs.Members.{Member}
use Rattle.node_core.specs.Standing.{HostsIn, IsInOwnRound, IsStage, IsWindow, KeepsFew}
use Rattle.node_core.specs.Windows.{Window}
use Rattle.node_core.specs.WindowClosing.{waits_after}
use Rattle.node_core.specs.declared.stage.Stage.{Stage}
use Rattle.node_core.specs.declared.stage.Stage.TheVariants.{InWindow}
use Rattle.node_core.proofs.KeptRequests.{closes_keeps, stands_after, hosts_after, accepts_none}
use Rattle.node_core.proofs.node.Node.close_window.Goals as goal

pub invariant_of-self : goal.invariant_of-self
invariant_of-self g c =
    let m = c.self.inside.member in
    let core = c.self.inside.member.core in
    let slot = c.in-InWindow.slot in
    let window = c.in-InWindow.window in
    let frame = c.self.inside.frame in
    let hosted : HostsIn frame core (InWindow slot window) = subst (λ (x : Stage). HostsIn frame core x) c.in-InWindow.is c.self.invariant.hosted in
    let stood : IsWindow core slot window = subst (λ (x : Stage). IsStage core x) c.in-InWindow.is c.self.invariant.stands in
    let had : KeepsFew m.setup.profile core (InWindow slot window) =
    subst (λ (x : Stage). KeepsFew m.setup.profile core x) c.in-InWindow.is c.self.invariant.kept in
    let new = c.pass.new.self in
    let stage = c.stage_after-self-inside.result in
    let same : c.window.inside.last ≡ window.last = ap (λ (w : Window). w.last) c.window.view_is in
    let part_is : window.part ≡ c.window.inside.part = ap (λ (w : Window). w.part) (sym c.window.view_is) in
    let at : stage ≡ waits_after slot window.last = c.stage_after-self-inside.ensures ∙ ap (waits_after slot) same in
    let begun = c.initiated-initiated.result in
    let next : slot < window.last → slot + 1 ≤ last_slot new.core.plan = search rules in
    let own : slot < window.last → IsInOwnRound frame new.core = search rules in
    record {
      few = c.self.invariant.few;
      timed = search rules;
      stands = stands_after slot window.last stage at new.core next;
      accepted = c.pass.ensures.early;
      hosted = hosts_after slot window.last stage at new.core frame own;
      kept = subst (λ (x : Member). KeepsFew x.setup.profile x.core stage) (sym c.pass.ensures.core)
          (subst (λ (q : Part). KeepsFew m.setup.profile (closed_slot m.setup frame q begun core None).core stage) part_is
          (closes_keeps m.setup frame slot core window stood.next stood.carried stood.inside hosted.1 had stage begun None at
          (sym (accepts_none window (search rules)))));
    }
