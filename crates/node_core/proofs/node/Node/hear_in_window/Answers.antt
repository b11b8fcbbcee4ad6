use Rattle.std.proofs.Common.{subst, sym}
use Rattle.node_core.specs.Standing.{HostsIn, IsStage, IsWindow, KeepsFew}
use Rattle.node_core.specs.Windows.{Window}
use Rattle.node_core.specs.declared.stage.Stage.{Stage}
use Rattle.node_core.specs.declared.stage.Stage.TheVariants.{InWindow}
use Rattle.node_core.proofs.KeptWindows.{hearing_stands, hearing_hosted}
use Rattle.node_core.proofs.node.Node.hear_in_window.Goals as goal

pub invariant_of-self-2 : goal.invariant_of-self-2
invariant_of-self-2 g c =
    let core = c.self.inside.member.core in
    let slot = c.in-InWindow.field-0 in
    let window = c.in-InWindow.window in
    let frame = c.self.inside.frame in
    let new_is = sym c.hear-reply.ensures.after in
    let profile = c.profile-profile.result in
    let rank = c.rank-rank.result in
    let heard = c.args.packet.now in
    let hosted : HostsIn frame core (InWindow slot window) = subst (λ (x : Stage). HostsIn frame core x) c.in-InWindow.is c.self.invariant.hosted in
    let stood : IsWindow core slot window = subst (λ (x : Stage). IsStage core x) c.in-InWindow.is c.self.invariant.stands in
    let kept : KeepsFew c.self.inside.member.setup.profile core (InWindow slot window) =
    subst (λ (x : Stage). KeepsFew c.self.inside.member.setup.profile core x) c.in-InWindow.is c.self.invariant.kept in
    record {
      few = c.self.invariant.few;
      timed = c.self.invariant.timed;
      stands = subst (λ (w : Window). IsWindow core slot w) new_is (hearing_stands profile rank c.args.now slot core window heard c.requires.now stood);
      accepted = c.self.invariant.accepted;
      hosted = subst (λ (w : Window). HostsIn frame core (InWindow slot w)) new_is (hearing_hosted profile rank c.args.now frame slot core window heard hosted);
      kept = subst (λ (w : Window). KeepsFew c.self.inside.member.setup.profile core (InWindow slot w)) new_is
          (record { few = kept.few; none = kept.none; named = kept.named });
    }
