use Rattle.std.proofs.Common.{◌≡◌, ◌∙◌, sym, subst, ap, map}
use Rattle.link_trace.specs.Masks.{AreNodes}
use Rattle.scenario_text.proofs.SoundOver.{over_sound}
use Rattle.scenario_text.specs.FloodParts.{node_id}
use Rattle.lwb_base.specs.Profile.{Numbers}
use Rattle.radio_model.specs.Holding.{Holds, nothing_yet}
use Rattle.radio_model.specs.Stations.{first_state}
use Rattle.world_engine.proofs.FirstField.{sound_nodes, first_field}
use Rattle.world_engine.proofs.field.Field.new.Goals as goal

pub new-requires : goal.new-requires
new-requires g c = subst AreNodes (sym (c.as_slice.ensures.value ∙ c.in_ok-nodes.ensures ∙ ap (map node_id) c.nodes.ensures))
    (sound_nodes c.args.s.now (over_sound c.args.s.now c.profile-profile.ensures.said))

pub invariant_of-result : goal.invariant_of-result
invariant_of-result g c =
    let s = c.args.s.now in
    let nodes = c.as_slice.ensures.value ∙ c.in_ok-nodes.ensures ∙ ap (map node_id) c.nodes.ensures in
    let medium : c.in_ok-medium.medium ≡ first_state s.profile (map node_id s.nodes) =
    c.in_ok-medium.ensures.state ∙ ap (λ (p : Numbers). first_state p c.as_slice.result.now) c.profile-profile.ensures.value
    ∙ ap (first_state s.profile) nodes in
    first_field s (over_sound s c.profile-profile.ensures.said) _ medium c.in_ok-devices.ensures

pub returns : goal.returns
returns g c =
    let s = c.args.s.now in
    let nodes = c.as_slice.ensures.value ∙ c.in_ok-nodes.ensures ∙ ap (map node_id) c.nodes.ensures in
    let medium : c.in_ok-medium.medium ≡ first_state s.profile (map node_id s.nodes) =
    c.in_ok-medium.ensures.state ∙ ap (λ (p : Numbers). first_state p c.as_slice.result.now) c.profile-profile.ensures.value
    ∙ ap (first_state s.profile) nodes in
    record {
      medium = medium;
      held = λ lines. subst (λ (p : Numbers). Holds c.in_ok-medium.medium (nothing_yet p lines)) c.profile-profile.ensures.value
          (c.in_ok-medium.ensures.holds lines);
      devices = c.in_ok-devices.ensures;
      air = c.new-2.ensures;
      deliveries = c.new-3.ensures.items;
      drops = c.new-4.ensures.items;
    }
