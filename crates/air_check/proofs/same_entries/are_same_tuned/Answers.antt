use Rattle.std.proofs.Common.{◌≡◌, List, map, ap}
use Rattle.std.specs.Bool.{Decides}
use Rattle.std.proofs.lemmas.Bool.Decides.{Decides-like}
use Rattle.std.proofs.lemmas.Slice.Eq.{slice_eq-Decides}
use Rattle.air_log.specs.declared.entry.TunedEntry.{TunedEntry}
use Rattle.air_log.specs.DeviceStates.{tuning_of}
use Rattle.air_check.proofs.SameEntries.{one_tuned, equal_tuned}
use Rattle.air_check.proofs.same_entries.are_same_tuned.Goals as goal

pub returns : goal.returns
returns c =
    let is : Decides c.eq.result (c.args.made.now ≡ c.args.logged.now) =
    slice_eq-Decides equal_tuned c.args.made.now c.args.logged.now c.eq.result c.eq.ensures in
    Decides-like c.eq.result (λ (same : c.args.made.now ≡ c.args.logged.now). ap (λ (l : List TunedEntry). map tuning_of l) same)
    (one_tuned c.args.made.now c.args.logged.now) is
