use Rattle.std.proofs.Common.{List, sym, subst}
use Rattle.std.specs.Prelude.{All}
use Rattle.law_times.specs.Losses.{LossesCostFew}
use Rattle.bus_bounds.specs.KeptBounds.{AreKeptBy, IsOpen}
use Rattle.bus_bounds.specs.declared.finding.Finding.{Finding}
use Rattle.bus_bounds.proofs.JoinsKept.{all_joins_kept, all_joins_open}
use Rattle.bus_bounds.proofs.joining.joins.Goals as goal

pub returns-clause-kept : goal.returns-clause-kept
returns-clause-kept c =
    let s = c.args.scenario.now in
    let ratios = c.args.ratios.now.lines in
    subst (AreKeptBy s ratios) (sym c.in_ok-found.ensures) (all_joins_kept s c.hosts-hosts.ensures.said ratios (record {
      join = c.members_stay.ensures.join;
      stay = c.members_stay.ensures.stay;
      few = subst LossesCostFew c.lossy_round_frames-frames.ensures.value c.lossy_round_frames-frames.ensures.few;
    }))

pub returns-clause-unmet : goal.returns-clause-unmet
returns-clause-unmet c =
    let s = c.args.scenario.now in
    let ratios = c.args.ratios.now.lines in
    subst (λ (found : List Finding). All (IsOpen s ratios) found) (sym c.in_ok-found.ensures) (all_joins_open s c.hosts-hosts.ensures.said ratios)
