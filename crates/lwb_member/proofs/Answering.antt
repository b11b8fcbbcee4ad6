-- Requests that are put to a table, one after another, and acknowledgements in their places by code.
use Rattle.std.proofs.Common.{◌≡◌, ℕ, zero, suc, ◌+◌, ◌-◌, ◌<◌, ◌≤◌, List, [], ◌∷◌, Bool, true, not, ◌==◌, nat_lt}
use Rattle.std.proofs.Common.{if◌then◌else◌, get_or, take, fold, refl, sym, ◌∙◌, ap, arith}
use Rattle.std.specs.List.{All, list_all}
use Rattle.std.proofs.lemmas.List.Sums.{fold_more}
use Rattle.std.proofs.lemmas.Bool.{eqb-true, eqb-false, lt-ltb, ltb-false, and_parts, cond_both}
use Rattle.std.proofs.lemmas.List.Elements.{All-cons, All-head, All-tail, All-filter}
use Rattle.lwb_base.specs.Messages.{Ask, code, code_of, node_of, stream_of}
use Rattle.schedule_codec.specs.AckLists.{strictly_ascend, ask_in_range}
use Rattle.bus_rules.specs.Streams.{Streams}
use Rattle.bus_rules.specs.Tables.{TableEntry, Table, new_entry, with_entry, without, is_full, has_code, after_request}
use Rattle.bus_rules.specs.HostPlans.{Answered, Served, with_ack, serve}
use Rattle.lwb_member.specs.Planning.{AreAnswers, IsEarly}

-- the order by codes stays
abbrev leads : Ask → List Ask → Bool
leads b [] = true
leads b (x ∷ xs) = nat_lt (code_of b) (code_of x)

led : (b : Ask) (xs : List Ask) → leads b xs ≡ true → strictly_ascend xs ≡ true → strictly_ascend (b ∷ xs) ≡ true
led b [] first up = refl
led b (x ∷ xs) first up = rw first up

leading : (b : Ask) (xs : List Ask) → strictly_ascend (b ∷ xs) ≡ true → (leads b xs ≡ true) × (strictly_ascend xs ≡ true)
leading b [] up = (refl, refl)
leading b (x ∷ xs) up = and_parts (nat_lt (code_of b) (code_of x)) (strictly_ascend (x ∷ xs)) up

leads_with : (b a : Ask) (xs : List Ask) → nat_lt (code_of b) (code_of a) ≡ true → leads b xs ≡ true → leads b (with_ack a xs) ≡ true
leads_with b a [] below first = below
leads_with b a (x ∷ xs) below first =
    cond_both (code_of a == code_of x) (a ∷ xs) (if nat_lt (code_of a) (code_of x) then a ∷ x ∷ xs else x ∷ with_ack a xs) (λ (l : List Ask). leads b l ≡ true)
    (λ same. below)
    (λ other. cond_both (nat_lt (code_of a) (code_of x)) (a ∷ x ∷ xs) (x ∷ with_ack a xs) (λ (l : List Ask). leads b l ≡ true) (λ less. below) (λ more. first))

same_leads : (a x : Ask) (xs : List Ask) → code_of a ≡ code_of x → leads x xs ≡ true → leads a xs ≡ true
same_leads a x [] same first = refl
same_leads a x (y ∷ ys) same first = rw same first

pub with_ascends : (a : Ask) (xs : List Ask) → strictly_ascend xs ≡ true → strictly_ascend (with_ack a xs) ≡ true
with_ascends a [] up = refl
with_ascends a (x ∷ xs) up =
    let parts = leading x xs up in
    let rest = with_ascends a xs parts.1 in
    cond_both (code_of a == code_of x) (a ∷ xs) (if nat_lt (code_of a) (code_of x) then a ∷ x ∷ xs else x ∷ with_ack a xs)
    (λ (l : List Ask). strictly_ascend l ≡ true)
    (λ same. led a xs (same_leads a x xs (eqb-true (code_of a) (code_of x) same) parts.0) parts.1)
    (λ other. cond_both (nat_lt (code_of a) (code_of x)) (a ∷ x ∷ xs) (x ∷ with_ack a xs) (λ (l : List Ask). strictly_ascend l ≡ true)
    (λ less. led a (x ∷ xs) less up)
    (λ more.
    let apart = eqb-false (code_of a) (code_of x) other in
    let from = ltb-false (code_of a) (code_of x) more in
    led x (with_ack a xs) (leads_with x a xs (lt-ltb (code_of x) (code_of a) (omega arith)) parts.0) rest))

-- each is in its ranges
pub with_ranges : (a : Ask) (xs : List Ask) → ask_in_range a ≡ true → list_all ask_in_range xs ≡ true → list_all ask_in_range (with_ack a xs) ≡ true
with_ranges a [] this all = rw this refl
with_ranges a (x ∷ xs) this all =
    let parts = and_parts (ask_in_range x) (list_all ask_in_range xs) all in
    cond_both (code_of a == code_of x) (a ∷ xs) (if nat_lt (code_of a) (code_of x) then a ∷ x ∷ xs else x ∷ with_ack a xs)
    (λ (l : List Ask). list_all ask_in_range l ≡ true)
    (λ same. rw this parts.1)
    (λ other. cond_both (nat_lt (code_of a) (code_of x)) (a ∷ x ∷ xs) (x ∷ with_ack a xs) (λ (l : List Ask). list_all ask_in_range l ≡ true)
    (λ less. rw this all)
    (λ more. rw parts.0 (with_ranges a xs this parts.1)))

-- nothing that a request leaves was accepted later
abbrev pub Early : ℕ → TableEntry → Type 0
Early frame e = e.accepted ≤ frame

with_early : (frame : ℕ) (e : TableEntry) (es : List TableEntry) → Early frame e → All (Early frame) es → All (Early frame) (with_entry e es)
with_early frame e [] this all = All-cons (Early frame) e [] this all
with_early frame e (x ∷ es) this all =
    let first = All-head (Early frame) x es all in
    let rest = All-tail (Early frame) x es all in
    cond_both (e.code == x.code) (e ∷ es) (if nat_lt e.code x.code then e ∷ x ∷ es else x ∷ with_entry e es) (All (Early frame))
    (λ same. All-cons (Early frame) e es this rest)
    (λ other. cond_both (nat_lt e.code x.code) (e ∷ x ∷ es) (x ∷ with_entry e es) (All (Early frame)) (λ less. All-cons (Early frame) e (x ∷ es) this all)
    (λ more. All-cons (Early frame) x (with_entry e es) first (with_early frame e es this rest)))

pub request_early : (frame : ℕ) (t : Table) (a : Ask) → IsEarly frame t → IsEarly frame (after_request frame t a)
request_early frame t a all =
    cond_both (is_full a t) t.entries (if a.interval == 0 then without (code_of a) t.entries else with_entry (new_entry a frame) t.entries) (All (Early frame))
    (λ full. all)
    (λ room. cond_both (a.interval == 0) (without (code_of a) t.entries) (with_entry (new_entry a frame) t.entries) (All (Early frame))
    (λ ends. All-filter (λ (e : TableEntry). not (has_code (code_of a) e)) (Early frame) t.entries all)
    (λ asks. with_early frame (new_entry a frame) t.entries (omega arith) all))

-- one after another
abbrev pub collected : Table → List Ask → Answered
collected t acks = record { table = t; acks = acks }

abbrev pub four : List ℕ
four = 0 ∷ 1 ∷ 2 ∷ 3 ∷ []

four_at : (i : ℕ) → i < 4 → get_or four i i ≡ i
four_at zero within = refl
four_at (suc zero) within = refl
four_at (suc (suc zero)) within = refl
four_at (suc (suc (suc zero))) within = refl
four_at (suc (suc (suc (suc i)))) within = absurd (omega arith)

abbrev pub serving : Table → Streams → Served
serving t s = record { table = t; streams = s }

-- after the streams below this one
abbrev pub served_to : ℕ → ℕ → ℕ → Table → Streams → ℕ → Served
served_to frame node boot t s i = fold (serve frame node boot) (serving t s) (take i four)

pub served_more : (frame node boot i owner : ℕ) (start t t' : Table) (first s s' : Streams) → i < 4 → owner ≡ code node i
    → serving t s ≡ served_to frame node boot start first i
    → t' ≡ (serve frame (node_of owner) boot (serving t s) (stream_of owner)).table
    → s' ≡ (serve frame (node_of owner) boot (serving t s) (stream_of owner)).streams → serving t' s' ≡ served_to frame node boot start first (i + 1)
served_more frame node boot i owner start t t' first s s' within is before table streams =
    let its : node_of owner ≡ node = omega arith in
    let this : stream_of owner ≡ i = omega arith in
    let now : serving t' s' ≡ serve frame (node_of owner) boot (serving t s) (stream_of owner) = cc (table, streams) in
    now ∙ ap (λ (n : ℕ). serve frame n boot (serving t s) (stream_of owner)) its ∙ ap (λ (n : ℕ). serve frame node boot (serving t s) n) this
    ∙ ap (λ (x : Served). serve frame node boot x i) before
    ∙ ap (λ (n : ℕ). serve frame node boot (served_to frame node boot start first i) n) (sym (four_at i within))
    ∙ sym (fold_more (serve frame node boot) (serving start first) four i i within)

pub with_are : (a : Ask) (bs : List Ask) → ask_in_range a ≡ true → AreAnswers bs → AreAnswers (with_ack a bs)
with_are a bs this are = record { ascend = with_ascends a bs are.ascend; ranges = with_ranges a bs this are.ranges }
