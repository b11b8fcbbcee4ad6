-- Put lines whose packets are dropped.
use Rattle.std.specs.Prelude.{is_none, if◌then◌else◌, Some, None}
use Rattle.std.specs.declared.option.Option.{Option}
use Rattle.bus_rules.specs.declared.delivery.DropLine.{DropLine}
use Rattle.bus_terms.specs.declared.packets.PutLine.{PutLine}

-- a put line that queued no packet
abbrev pub drop_of : PutLine → Option DropLine
drop_of put = if is_none put.packet then Some (record { frame = put.frame; node = put.node; stream = put.stream }) else None
