-- What a request asks of a table, and what is answered.
use Rattle.std.specs.Prelude.{◌==◌, nat_lt, if◌then◌else◌, is_some, length}
use Rattle.lwb_base.specs.Messages.{Ask, code_of}
use Rattle.lwb_packets.specs.declared.request.Request.{Request}
use Rattle.bus_rules.specs.Tables.{Table, entry_of}
use Rattle.stream_table.specs.declared.table.Answer.{Answer}
use Rattle.stream_table.specs.declared.table.Answer.TheVariants.{Accepted, Replaced, Removed, Full}

abbrev pub ask_of : Request → Ask
ask_of r = record { node = r.node; boot = r.boot; stream = r.stream; interval = r.interval }

abbrev pub answer_to : Ask → Table → Answer
answer_to a t =
    if a.interval == 0 then Removed
    else if is_some (entry_of t.entries (code_of a)) then Replaced
    else if nat_lt (length t.entries) 32 then Accepted
    else Full
