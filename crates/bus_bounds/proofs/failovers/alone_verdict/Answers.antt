use Rattle.std.proofs.Common.{◌≡◌, Option, None, find, sym, ◌∙◌, ap}
use Rattle.std.specs.Option.{option_copied}
use Rattle.bus_bounds.specs.BoundFindings.{alone_verdict, stands_against, verdict_of}
use Rattle.bus_bounds.specs.declared.power_line.PowerLine.{PowerLine}
use Rattle.bus_bounds.proofs.failovers.alone_verdict.Goals as goal

pub returns-in-None : goal.returns-in-None
returns-in-None c =
    let ls = c.args.lines.now in
    let hosts = c.args.hosts.now in
    let host = c.args.host in
    let b = c.args.frame in
    let n = c.args.frames in
    let nobody : find (stands_against ls host b) hosts ≡ None = sym c.against.ensures ∙ ap option_copied c.in-None.is in
    c.verdict.ensures
    ∙ ap (λ (o : Option PowerLine). verdict_of c.args.run o b n) c.first_turn-turn.ensures
    ∙ ap (alone_verdict ls hosts c.args.run host b n) (sym nobody)
