use Rattle.std.proofs.Common.{◌≡◌, ℕ, List, [], map, reverse, ap, ◌∙◌, subst, arith, length}
use Rattle.lwb_base.specs.Profile.{Numbers}
use Rattle.radio_model.specs.declared.tuning.RadioTuning.{RadioTuning}
use Rattle.radio_model.specs.declared.sending.Sending.{Sending}
use Rattle.radio_model.specs.Stations.{untuned}
use Rattle.bus_rules.specs.Cores.{Setup, setup_for}
use Rattle.bus_rules.specs.declared.delivery.Delivery.{Delivery}
use Rattle.air_log.specs.declared.entry.TunedEntry.{TunedEntry}
use Rattle.air_log.specs.Devices.{at_rest}
use Rattle.air_log.specs.DeviceStates.{tuning_of}
use Rattle.air_log.specs.Courses.{CourseState, CourseShows}
use Rattle.air_log.proofs.CourseSteps.{course_begins}
use Rattle.scenario_text.proofs.SoundScenarios.{sound}
use Rattle.air_log.proofs.course.Course.new.Goals as goal

pub new-requires-clause-hosts : goal.new-requires-clause-hosts
new-requires-clause-hosts c =
    let is = sound c.args.s.now c.profile-profile.ensures.said in
    omega (arith, is.some_hosts, is.few_hosts, ap length c.hosts.ensures.value)

pub new-requires-clause-sends : goal.new-requires-clause-sends
new-requires-clause-sends c =
    let is = sound c.args.s.now c.profile-profile.ensures.said in
    omega (arith, is.some_sends, is.few_sends, c.sends.ensures)

pub returns : goal.returns
returns c =
    let s = c.args.s.now in
    let is = sound s c.profile-profile.ensures.said in
    let v = c.args.node in
    let p = c.profile-profile.result in
    let hosts = c.hosts.result.now in
    let n = c.sends.result in
    let device = c.in_ok-new.field-0 in
    let told = c.in_ok-new.ensures in
    let course : CourseState = record {
      device = device;
      tuning = c.none.result;
      sent = c.new-2.result.items;
      tuned = reverse (map tuning_of c.new-3.result.items);
      deliveries = c.new-4.result.items;
    } in
    let first : course ≡ record { device = device; tuning = untuned; sent = []; tuned = []; deliveries = [] } =
    ap (λ (x : RadioTuning). record course { tuning = x }) c.none.ensures
    ∙ ap (λ (l : List Sending). record course { tuning = untuned; sent = l }) c.new-2.ensures.items
    ∙ ap (λ (l : List TunedEntry). record course { tuning = untuned; sent = []; tuned = reverse (map tuning_of l) }) c.new-3.ensures.items
    ∙ ap (λ (l : List Delivery). record { device = device; tuning = untuned; sent = []; tuned = []; deliveries = l }) c.new-4.ensures.items in
    let setup : setup_for p hosts n v ≡ setup_for s.profile s.hosts s.sends v =
    ap (λ (x : Numbers). setup_for x hosts n v) c.profile-profile.ensures.value ∙ ap (λ (l : List ℕ). setup_for s.profile l n v) c.hosts.ensures.value
    ∙ ap (λ (k : ℕ). setup_for s.profile s.hosts k v) c.sends.ensures in
    subst (λ (q : Setup). CourseShows q 0 course at_rest) setup
    (course_begins (setup_for p hosts n v) course (omega (arith, is.few_sends, c.sends.ensures)) told.setup told.rest told.idle told.channel told.delivery
    told.windows first)
