-- The bytes of a schedule, taken apart and put together.
use Rattle.std.proofs.Common.{◌≡◌, ℕ, ◌+◌, ◌-◌, ◌*◌, ◌/◌, ◌%◌, ◌≤◌, ◌==◌, ◌⊎◌, inl, inr, List, [], ◌∷◌, ◌++◌, true, length}
use Rattle.std.proofs.Common.{take, drop, get_or, set, Option, Some, None, refl, sym, ◌∙◌, ap, subst, arith}
use Rattle.std.proofs.lemmas.Bool.{and_parts, and_from, cond_both}
use Rattle.std.proofs.lemmas.List.{take_rest}
use Rattle.std.specs.Option.{IfSome}
use Rattle.std.specs.Str.{bytes_eq}
use Rattle.lwb_base.specs.Messages.{Ask, Schedule}
use Rattle.schedule_codec.specs.declared.ack_bytes.Acknowledged.{Acknowledged}
use Rattle.schedule_codec.specs.OwnerLists.{owners_bytes}
use Rattle.schedule_codec.specs.Spelling.{schedule_spelling, spells, acks_bytes, slot_fits, SpellsBody, IsWritable}
use Rattle.schedule_codec.specs.Reading.{schedule_of}
use Rattle.schedule_codec.proofs.Readings.{Parts, parts_of, range_from, same_bytes, bytes_same, read_as, spelled_by}

-- bytes that spell a schedule, part by part
pub record Heads (p : List ℕ) (s : Schedule) : Type 0 where
  pub long : 5 ≤ length p
  pub head : get_or p 3 0 ≡ s.plan.rank * 16 + s.gap
  pub boot : get_or p 4 0 ≡ s.plan.boot
  pub parts : Parts s (get_or p 1 0) (get_or p 2 0)
  pub body : SpellsBody (get_or p 0 0) (drop 5 p) s.plan.contend s.plan.acks s.plan.owners

pub heads_of : (p : List ℕ) (s : Schedule) → spells p s ≡ true → Heads p s
heads_of p s is =
    let slot : ℕ = get_or p 1 0 in
    let counter : ℕ = get_or p 2 0 in
    let both = and_parts _ _ is in
    let same : schedule_spelling s slot counter ≡ p = bytes_same (schedule_spelling s slot counter) p both.1 in
    let size = ap length same in
    let parts = parts_of s slot counter both.0 in
    record {
      long = omega arith;
      head = sym (ap (λ (l : List ℕ). get_or l 3 0) same);
      boot = sym (ap (λ (l : List ℕ). get_or l 4 0) same);
      parts = parts;
      body = record {
        acknowledged = record {
          kind_is = ap (λ (l : List ℕ). get_or l 0 0) same;
          named = parts.contend;
          few = parts.few;
          in_range = parts.acks;
          ordered = parts.ordered;
          bytes = refl;
        };
        owned = parts.owners;
        whole = ap (λ (l : List ℕ). drop 5 l) same;
      };
    }

-- the first byte of a schedule, and the rank in its fourth
pub record Names (p : List ℕ) (rank : ℕ) : Type 0 where
  pub long : 5 ≤ length p
  pub kind : (get_or p 0 0 ≡ 1) ⊎ (get_or p 0 0 ≡ 4)
  pub host : get_or p 3 0 / 16 ≡ rank

pub names_host : (p : List ℕ) (s : Schedule) → spells p s ≡ true → Names p s.plan.rank
names_host p s is =
    let h = heads_of p s is in
    let head = h.head in
    let gap = h.parts.gap in
    let kind = h.body.acknowledged.kind_is in
    record {
      long = h.long;
      kind = cond_both (s.plan.contend == 0) 1 4 (λ (n : ℕ). n ≡ get_or p 0 0 → (get_or p 0 0 ≡ 1) ⊎ (get_or p 0 0 ≡ 4))
          (λ none same. inl (sym same)) (λ some same. inr (sym same)) kind;
      host = omega arith;
    }

five_and_rest : (p : List ℕ) → 5 ≤ length p → get_or p 0 0 ∷ get_or p 1 0 ∷ get_or p 2 0 ∷ get_or p 3 0 ∷ get_or p 4 0 ∷ drop 5 p ≡ p
five_and_rest [] long = absurd (omega arith)
five_and_rest (a ∷ []) long = absurd (omega arith)
five_and_rest (a ∷ b ∷ []) long = absurd (omega arith)
five_and_rest (a ∷ b ∷ c ∷ []) long = absurd (omega arith)
five_and_rest (a ∷ b ∷ c ∷ d ∷ []) long = absurd (omega arith)
five_and_rest (a ∷ b ∷ c ∷ d ∷ e ∷ p) long = refl

pub spells_from : (p : List ℕ) (s : Schedule) → Heads p s → spells p s ≡ true
spells_from p s h =
    let slot : ℕ = get_or p 1 0 in
    let counter : ℕ = get_or p 2 0 in
    let rest : List ℕ = acks_bytes s.plan.contend s.plan.acks ++ owners_bytes s.plan.owners in
    let same : schedule_spelling s slot counter ≡ p =
    ap (λ (n : ℕ). n ∷ slot ∷ counter ∷ (s.plan.rank * 16 + s.gap) ∷ s.plan.boot ∷ rest) h.body.acknowledged.kind_is
    ∙ ap (λ (n : ℕ). get_or p 0 0 ∷ slot ∷ counter ∷ n ∷ s.plan.boot ∷ rest) (sym h.head)
    ∙ ap (λ (n : ℕ). get_or p 0 0 ∷ slot ∷ counter ∷ get_or p 3 0 ∷ n ∷ rest) (sym h.boot)
    ∙ ap (λ (l : List ℕ). get_or p 0 0 ∷ slot ∷ counter ∷ get_or p 3 0 ∷ get_or p 4 0 ∷ l) h.body.whole
    ∙ five_and_rest p h.long in
    and_from _ _ (range_from s slot counter h.parts)
    (ap (λ (l : List ℕ). bytes_eq (schedule_spelling s slot counter) l) (sym same) ∙ same_bytes (schedule_spelling s slot counter))

-- what answers exactly the schedules that spell the bytes is what they are read as
pub read_value : (p : List ℕ) (o : Option Schedule) → IfSome o (λ s. spells p s ≡ true) → ((s : Schedule) → spells p s ≡ true → o ≡ Some s) → o ≡ schedule_of p
read_value p (Some s) some all = sym (read_as p s some)
read_value p None some all = by_value (schedule_of p) refl
  where
    by_value : (q : Option Schedule) → schedule_of p ≡ q → None ≡ schedule_of p
    by_value None is = sym is
    by_value (Some s) is = let never = all s (spelled_by p s is) in cc never

pub same_schedule : (p : List ℕ) (s t : Schedule) → spells p s ≡ true → spells p t ≡ true → Some s ≡ Some t
same_schedule p s t is also = sym (read_as p s is) ∙ read_as p t also

-- the schedule that was read off the bytes spells them
pub read_spells : (p whole : List ℕ) (host contend : ℕ) (acks : List Ask) (owners : List ℕ) → p ≡ whole → 5 ≤ length p → get_or p 2 0 ≤ 11
    → 1 ≤ get_or p 4 0 → get_or p 4 0 ≤ 200 → get_or p 3 0 % 16 ≤ 4 → get_or p 3 0 / 16 ≤ 3 → host ≡ get_or p 3 0 / 16
    → slot_fits (get_or p 3 0 % 16) contend (get_or p 1 0) ≡ true → SpellsBody (get_or p 0 0) (take (length p - 5) (drop 5 p)) contend acks owners
    → spells whole (record {
      gap = get_or p 3 0 % 16;
      plan = record { rank = host; boot = get_or p 4 0; contend = contend; acks = acks; owners = owners };
    }) ≡ true
read_spells p whole host contend acks owners same long count low high gap rank is place body =
    let s : Schedule = record {
      gap = get_or p 3 0 % 16;
      plan = record { rank = host; boot = get_or p 4 0; contend = contend; acks = acks; owners = owners };
    } in
    ap (λ l. spells l s) (sym same)
    ∙ spells_from p s (record {
      long = long;
      head = omega arith;
      boot = refl;
      parts = record {
        count = count;
        place = place;
        rank = omega arith;
        boot = (low, high);
        gap = gap;
        contend = body.acknowledged.named;
        few = body.acknowledged.few;
        acks = body.acknowledged.in_range;
        ordered = body.acknowledged.ordered;
        owners = body.owned;
      };
      body = subst (λ (l : List ℕ). SpellsBody (get_or p 0 0) l contend acks owners) (take_rest p 5) body;
    })

-- the part after the host's boot, as a slice pattern leaves it
pub body_behind : (p : List ℕ) (s : Schedule) → Heads p s → SpellsBody (get_or p 0 0) (take (length p - 5) (drop 5 p)) s.plan.contend s.plan.acks s.plan.owners
body_behind p s h = subst (λ (l : List ℕ). SpellsBody (get_or p 0 0) l s.plan.contend s.plan.acks s.plan.owners) (sym (take_rest p 5)) h.body

contend_of : Option (Acknowledged × List ℕ) → ℕ
contend_of None = 0
contend_of (Some b) = b.0.contend

pub same_contend : (b : Acknowledged) (owners owners' : List ℕ) (contend : ℕ) (acks : List Ask) → ◌≡◌ {A = Option (Acknowledged × List ℕ)}
    (Some (b, owners)) (Some (record { contend = contend; acks = acks }, owners')) → b.contend ≡ contend
unfolding contend_of
same_contend b owners owners' contend acks is = ap contend_of is

pub if_some_then : {X : Type 0} (o : Option X) (P Q : X → Type 0) → IfSome o P → ((x : X) → P x → Q x) → IfSome o Q
if_some_then None P Q is then = tt
if_some_then (Some x) P Q is then = then x is

pub written_again : (p : List ℕ) (s : Schedule) → spells p s ≡ true → set (schedule_spelling s (get_or p 1 0) 0) 2 (get_or p 2 0) ≡ p
written_again p s is = bytes_same (schedule_spelling s (get_or p 1 0) (get_or p 2 0)) p (and_parts _ _ is).1

pub writable_again : (p : List ℕ) (s : Schedule) → spells p s ≡ true → IsWritable s (get_or p 1 0)
writable_again p s is =
    let parts = (heads_of p s is).parts in
    record { boot = parts.boot; gap = parts.gap; contend = parts.contend; few = parts.few; acks = parts.acks; place = parts.place }
