-- The frames in which the streams of a table were accepted stay, whatever a window's closing does to the table.
use Rattle.std.proofs.Common.{ℕ, ◌+◌, List, [], ◌∷◌, Option, Some, None, Bool, true, false, nat_lt, if◌then◌else◌}
use Rattle.std.proofs.lemmas.Bool.{cond_both}
use Rattle.std.proofs.lemmas.List.Elements.{All-cons, All-head, All-tail, All-map}
use Rattle.std.specs.Prelude.{All, filter_map}
use Rattle.std.specs.List.{cons_option}
use Rattle.std.specs.Option.{IfSome}
use Rattle.bus_rules.specs.declared.part.Part.{Part}
use Rattle.bus_rules.specs.declared.part.Part.TheVariants.{Opening, Data as DataSlot, Contention, Closing}
use Rattle.bus_rules.specs.Tables.{TableEntry, Table, has_code, entry_after_data, missed}
use Rattle.bus_rules.specs.Cores.{Core}
use Rattle.bus_rules.specs.Slots.{hosts_now, owner_heard, slot_heard}
use Rattle.lwb_member.specs.Planning.{IsEarly}
use Rattle.lwb_member.proofs.Answering.{Early}

put : (frame : ℕ) (o : Option TableEntry) (es : List TableEntry) → IfSome o (Early frame) → All (Early frame) es → All (Early frame) (cons_option o es)
put frame None es this all = all
put frame (Some e) es this all = All-cons (Early frame) e es this all

missed_early : (frame c : ℕ) (e : TableEntry) → Early frame e → IfSome (missed c e) (Early frame)
missed_early frame c e early =
    cond_both (has_code c e) (if nat_lt (e.unheard + 1) 16 then Some (record e { unheard = e.unheard + 1 }) else None) (Some e)
    (λ (o : Option TableEntry). IfSome o (Early frame))
    (λ is. cond_both (nat_lt (e.unheard + 1) 16) (Some (record e { unheard = e.unheard + 1 })) None (λ (o : Option TableEntry). IfSome o (Early frame))
    (λ less. early) (λ goes. tt))
    (λ other. early)

each_missed : (frame c : ℕ) (es : List TableEntry) → All (Early frame) es → All (Early frame) (filter_map (missed c) es)
each_missed frame c [] all = all
each_missed frame c (e ∷ es) all =
    put frame (missed c e) (filter_map (missed c) es) (missed_early frame c e (All-head (Early frame) e es all))
    (each_missed frame c es (All-tail (Early frame) e es all))

owner_early : (frame owner : ℕ) (heard : Bool) (t : Table) → IsEarly frame t → IsEarly frame (owner_heard heard owner t)
owner_early frame owner true t all = All-map (Early frame) (entry_after_data owner) t.entries all
owner_early frame owner false t all = each_missed frame owner t.entries all

pub slot_early : (frame : ℕ) (part : Part) (heard : Bool) (c : Core) → IsEarly frame c.table → IsEarly frame (slot_heard frame part heard c).table
slot_early frame (DataSlot owner) heard c all =
    cond_both (hosts_now frame c) (owner_heard heard owner c.table) c.table (IsEarly frame) (λ now. owner_early frame owner heard c.table all) (λ not. all)
slot_early frame Opening heard c all = all
slot_early frame (Contention i) heard c all = all
slot_early frame Closing heard c all = all
