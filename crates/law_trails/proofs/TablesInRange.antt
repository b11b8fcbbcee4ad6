-- Whatever a host does to its table, it stays in its ranges.
use Rattle.std.proofs.Common.{◌≡◌, ◌≢◌, ◌⊎◌, inl, inr, ℕ, ◌+◌, ◌≤◌, List, [], ◌∷◌, length, filter_map, map, Bool, true, false, not, ◌&&◌, ◌==◌, nat_lt}
use Rattle.std.proofs.Common.{is_none, cond, if◌then◌else◌, Some, None, Option, refl, sym, subst, arith}
use Rattle.std.specs.Prelude.{All}
use Rattle.std.specs.List.{cons_option}
use Rattle.std.specs.Option.{IfSome, option_map_or}
use Rattle.std.proofs.lemmas.Bool.{cond_both, and_parts, leb-true, ltb-true, eqb-false, ne_eqb}
use Rattle.std.proofs.lemmas.List.{length-map}
use Rattle.std.proofs.lemmas.List.Elements.{All-nil, All-cons, All-head, All-tail, All-map, All-weaker, All-filter}
use Rattle.lwb_packets.specs.Ranges.{between}
use Rattle.lwb_base.specs.Messages.{Ask, code_of}
use Rattle.lwb_base.proofs.Lists.{length_filtered, length_sifted}
use Rattle.schedule_codec.specs.AckLists.{ask_in_range}
use Rattle.bus_rules.specs.Tables.{TableEntry, Table, AreEntries, EntriesAreAbove, EntriesAscend, no_table, has_code, entry_of, without, with_entry, is_full}
use Rattle.bus_rules.specs.Tables.{new_entry, after_request, interval_in, interval_of, entry_after_data, missed}
use Rattle.bus_rules.specs.Slots.{owner_heard}
use Rattle.stream_table.proofs.Order.{Keeps, none_above, ascends_map, ascends_filter_map, ascends_filter, ascends_with}
use Rattle.stream_table.proofs.Changes.{seen_keeps, missed_sifts}
use Rattle.law_trails.specs.TableRanges.{IsEntry, IsTable}

pub no_table_is : IsTable no_table
no_table_is = record { entries = record { few = omega arith; ascends = tt }; each = All-nil IsEntry }

-- a request in its ranges, part by part
pub record IsAsk (a : Ask) : Type 0 where
  pub node : (1 ≤ a.node) × (a.node ≤ 200)
  pub boot : (1 ≤ a.boot) × (a.boot ≤ 200)
  pub stream : a.stream ≤ 3
  pub interval : a.interval ≤ 120

pub ask_is : (a : Ask) → ask_in_range a ≡ true → IsAsk a
ask_is a is =
    let intervals = and_parts _ _ is in
    let streams = and_parts _ _ intervals.0 in
    let boots = and_parts (between 1 200 a.node) (between 1 200 a.boot) streams.0 in
    let node = and_parts _ _ boots.0 in
    let boot = and_parts _ _ boots.1 in
    record {
      node = (leb-true 1 a.node node.0, leb-true a.node 200 node.1);
      boot = (leb-true 1 a.boot boot.0, leb-true a.boot 200 boot.1);
      stream = leb-true a.stream 3 streams.1;
      interval = leb-true a.interval 120 intervals.1;
    }

with_option : (o : Option TableEntry) (es : List TableEntry) → IfSome o IsEntry → All IsEntry es → All IsEntry (cons_option o es)
with_option None es is all = all
with_option (Some e) es is all = All-cons IsEntry e es is all

each_sifted : (g : TableEntry → Option TableEntry) (es : List TableEntry) → ((e : TableEntry) → IsEntry e → IfSome (g e) IsEntry) → All IsEntry es
    → All IsEntry (filter_map g es)
each_sifted g [] keeps all = all
each_sifted g (e ∷ es) keeps all = with_option (g e) (filter_map g es) (keeps e (All-head IsEntry e es all))
    (each_sifted g es keeps (All-tail IsEntry e es all))

pub mapped_is : (f : TableEntry → TableEntry) (t : Table) (place : ℕ) → Keeps f → ((e : TableEntry) → IsEntry e → IsEntry (f e)) → IsTable t
    → IsTable (record { entries = map f t.entries; place = place })
mapped_is f t place keeps each is = record {
  entries = record { few = omega (arith, length-map t.entries f, is.entries.few); ascends = ascends_map f t.entries keeps is.entries.ascends };
  each = All-map IsEntry f t.entries (All-weaker IsEntry (λ e. IsEntry (f e)) each t.entries is.each);
}

-- the owner of a data slot is received, or not
missed_cases : (P : Option TableEntry → Type 0) (c : ℕ) (e : TableEntry) → P (Some (record e { unheard = e.unheard + 1 })) → P None → P (Some e)
    → P (missed c e)
missed_cases P c e more gone same =
    cond_both (has_code c e) (if nat_lt (e.unheard + 1) 16 then Some (record e { unheard = e.unheard + 1 }) else None) (Some e) P
    (λ mine. cond_both (nat_lt (e.unheard + 1) 16) (Some (record e { unheard = e.unheard + 1 })) None P (λ less. more) (λ goes. gone))
    (λ other. same)

missed_is : (c : ℕ) (e : TableEntry) → IsEntry e → IfSome (missed c e) IsEntry
missed_is c e is = missed_cases (λ o. IfSome o IsEntry) c e (record { code = is.code; boot = is.boot; interval = is.interval }) tt is

pub owner_is : (owner : ℕ) (heard : Bool) (t : Table) → IsTable t → IsTable (owner_heard heard owner t)
owner_is owner true t is =
    mapped_is (entry_after_data owner) t t.place (seen_keeps owner) (λ e x. record { code = x.code; boot = x.boot; interval = x.interval }) is
owner_is owner false t is = record {
  entries = record {
    few = omega (arith, length_sifted (missed owner) t.entries, is.entries.few);
    ascends = ascends_filter_map (missed owner) t.entries (missed_sifts owner) is.entries.ascends;
  };
  each = each_sifted (missed owner) t.entries (missed_is owner) is.each;
}

-- a request
with_few : (e : TableEntry) (es : List TableEntry) → length (with_entry e es) ≤ length es + 1
with_few e [] = omega arith
with_few e (x ∷ es) =
    cond_both (e.code == x.code) (e ∷ es) (if nat_lt e.code x.code then e ∷ x ∷ es else x ∷ with_entry e es)
    (λ (l : List TableEntry). length l ≤ length (x ∷ es) + 1)
    (λ same. omega arith)
    (λ other. cond_both (nat_lt e.code x.code) (e ∷ x ∷ es) (x ∷ with_entry e es) (λ (l : List TableEntry). length l ≤ length (x ∷ es) + 1)
    (λ less. omega arith) (λ more. omega (arith, with_few e es)))

-- an entry instead of one of the same code
above_lower : (low high : ℕ) (es : List TableEntry) → low ≤ high → EntriesAreAbove high es → EntriesAreAbove low es
above_lower low high [] le above = tt
above_lower low high (e ∷ es) le above = (omega (arith, above.0), above_lower low high es le above.1)

with_same : (e : TableEntry) (es : List TableEntry) → EntriesAscend es → is_none (entry_of es e.code) ≡ false → length (with_entry e es) ≤ length es
with_same e [] up there = absurd (cc)
with_same e (x ∷ es) up there =
    cond_both (e.code == x.code) (e ∷ es) (if nat_lt e.code x.code then e ∷ x ∷ es else x ∷ with_entry e es)
    (λ (l : List TableEntry). length l ≤ length (x ∷ es))
    (λ same. omega arith)
    (λ other.
    let apart = eqb-false e.code x.code other in
    let turned : x.code ≢ e.code = omega arith in
    let later : is_none (entry_of es e.code) ≡ false =
    subst (λ (b : Bool). is_none (cond b (Some x) (entry_of es e.code)) ≡ false) (ne_eqb x.code e.code turned) there in
    cond_both (nat_lt e.code x.code) (e ∷ x ∷ es) (x ∷ with_entry e es) (λ (l : List TableEntry). length l ≤ length (x ∷ es))
    (λ less.
    let below = ltb-true e.code x.code less in
    let none : entry_of es e.code ≡ None = none_above e.code es (above_lower e.code x.code es (omega arith) up.0) in
    let absent : true ≡ false = subst (λ (o : Option TableEntry). is_none o ≡ false) none later in
    absurd (cc))
    (λ more. omega (arith, with_same e es up.1 later)))

with_is : (e : TableEntry) (es : List TableEntry) → IsEntry e → All IsEntry es → All IsEntry (with_entry e es)
with_is e [] this all = All-cons IsEntry e [] this all
with_is e (x ∷ es) this all =
    let first = All-head IsEntry x es all in
    let rest = All-tail IsEntry x es all in
    cond_both (e.code == x.code) (e ∷ es) (if nat_lt e.code x.code then e ∷ x ∷ es else x ∷ with_entry e es) (All IsEntry)
    (λ same. All-cons IsEntry e es this rest)
    (λ other. cond_both (nat_lt e.code x.code) (e ∷ x ∷ es) (x ∷ with_entry e es) (All IsEntry) (λ less. All-cons IsEntry e (x ∷ es) this all)
    (λ more. All-cons IsEntry x (with_entry e es) first (with_is e es this rest)))

has_room : (x b c : Bool) → x ≡ false → (not x && not b && c) ≡ false → (b ≡ true) ⊎ (c ≡ false)
has_room true b c is full = absurd (cc)
has_room false true c is full = inl refl
has_room false false true is full = absurd (cc)
has_room false false false is full = inr refl

with_room : (a : Ask) (t : Table) (e : TableEntry) → e.code ≡ code_of a → (a.interval == 0) ≡ false → is_full a t ≡ false → AreEntries t.entries
    → length (with_entry e t.entries) ≤ 32
with_room a t e coded asks room are =
    elim (has_room (a.interval == 0) (nat_lt (length t.entries) 32) (is_none (entry_of t.entries (code_of a))) asks room) [
      | inl few ↦ omega (arith, with_few e t.entries, ltb-true (length t.entries) 32 few)
      | inr there ↦ omega (arith, with_same e t.entries are.ascends (subst (λ (c : ℕ). is_none (entry_of t.entries c) ≡ false) (sym coded) there), are.few)
    ]

pub request_is : (frame : ℕ) (t : Table) (a : Ask) → ask_in_range a ≡ true → IsTable t → IsTable (after_request frame t a)
request_is frame t a range is =
    let asked = ask_is a range in
    let new = new_entry a frame in
    let gone = without (code_of a) t.entries in
    let Kept : List TableEntry → Type 0 = λ es. IsTable (record { entries = es; place = t.place }) in
    cond_both (is_full a t) t.entries (if a.interval == 0 then gone else with_entry new t.entries) Kept (λ full. is)
    (λ room. cond_both (a.interval == 0) gone (with_entry new t.entries) Kept
    (λ ends. record {
      entries = record {
        few = omega (arith, length_filtered (λ e. not (has_code (code_of a) e)) t.entries, is.entries.few);
        ascends = ascends_filter (λ e. not (has_code (code_of a) e)) t.entries is.entries.ascends;
      };
      each = All-filter (λ e. not (has_code (code_of a) e)) IsEntry t.entries is.each;
    })
    (λ asks.
    let some = eqb-false a.interval 0 asks in
    let entry : IsEntry new = record {
      code = (omega (arith, asked.node, asked.stream), omega (arith, asked.node, asked.stream));
      boot = asked.boot;
      interval = (omega (arith, some), asked.interval);
    } in
    record {
      entries = record { few = with_room a t new refl asks room is.entries; ascends = ascends_with new t.entries is.entries.ascends };
      each = with_is new t.entries entry is.each;
    }))

-- what is agreed with an owner
interval_found : (o : Option TableEntry) → IfSome o IsEntry → option_map_or interval_in o 0 ≤ 120
interval_found None is = omega arith
interval_found (Some e) is = is.interval.1

found_is : (es : List TableEntry) (c : ℕ) → All IsEntry es → IfSome (entry_of es c) IsEntry
found_is [] c all = tt
found_is (e ∷ es) c all = cond_both (has_code c e) (Some e) (entry_of es c) (λ (o : Option TableEntry). IfSome o IsEntry)
    (λ this. All-head IsEntry e es all) (λ other. found_is es c (All-tail IsEntry e es all))

pub interval_is : (t : Table) (c : ℕ) → IsTable t → interval_of t c ≤ 120
interval_is t c is = interval_found (entry_of t.entries c) (found_is t.entries c is.each)
