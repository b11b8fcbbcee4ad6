-- What a host makes when the window of its closing slot opens.
use Rattle.std.specs.Prelude.{ℕ, List, [], ◌∷◌, ◌==◌, nat_lt, if◌then◌else◌, fold, Some, None}
use Rattle.std.specs.declared.option.Option.{Option}
use Rattle.lwb_base.specs.Profile.{Numbers}
use Rattle.lwb_base.specs.Messages.{Ask, Plan, code, code_of}
use Rattle.bus_rules.specs.Streams.{Streams, with_agreed, due_of}
use Rattle.bus_rules.specs.Tables.{Table, is_full, after_request, interval_of}
use Rattle.bus_rules.specs.Granting.{plan_round}

-- by ascending code, and instead of one of the same code
abbrev pub with_ack : Ask → List Ask → List Ask
with_ack a [] = a ∷ []
with_ack a (b ∷ bs) = if code_of a == code_of b then a ∷ bs else if nat_lt (code_of a) (code_of b) then a ∷ b ∷ bs else b ∷ with_ack a bs

-- first the kept requests are put to the table, and those that it takes are acknowledged
pub record Answered : Type 0 where
  pub table : Table
  pub acks : List Ask

abbrev pub answer : ℕ → Answered → Ask → Answered
answer frame x a = record { table = after_request frame x.table a; acks = if is_full a x.table then x.acks else with_ack a x.acks }

abbrev pub answers_to : ℕ → List Ask → Table → Answered
answers_to frame kept t = fold (answer frame) (record { table = t; acks = [] }) kept

-- then the host's own streams, ascending: what is agreed is what the table has, and a request that is then due is put to it
pub record Served : Type 0 where
  pub table : Table
  pub streams : Streams

abbrev pub put_if : ℕ → ℕ → ℕ → ℕ → Option ℕ → Table → Table
put_if frame node boot stream None t = t
put_if frame node boot stream (Some interval) t = after_request frame t (record { node = node; boot = boot; stream = stream; interval = interval })

abbrev pub serve : ℕ → ℕ → ℕ → Served → ℕ → Served
serve frame node boot x i =
    let streams = with_agreed i (interval_of x.table (code node i)) x.streams in
    record { table = put_if frame node boot i (due_of streams i) x.table; streams = streams }

abbrev pub served : ℕ → ℕ → ℕ → Table → Streams → Served
served frame node boot t s = fold (serve frame node boot) (record { table = t; streams = s }) (0 ∷ 1 ∷ 2 ∷ 3 ∷ [])

pub record HostPlan : Type 0 where
  pub gap : ℕ
  pub plan : Plan
  pub table : Table
  pub streams : Streams

-- by node, boot and rank of the host, in this frame, from the kept requests in the order of their slots
unfoldable pub host_plan : Numbers → ℕ → ℕ → ℕ → ℕ → List Ask → Table → Streams → HostPlan
host_plan p node boot rank frame kept t s =
    let first = answers_to frame kept t in
    let own = served frame node boot first.table s in
    let grants = plan_round p.seconds frame own.table in
    record {
      gap = grants.gap;
      plan = record { rank = rank; boot = boot; contend = p.contend; acks = first.acks; owners = grants.owners };
      table = grants.table;
      streams = own.streams;
    }
