-- A spelling stays one with any counter from 0 to 11: its kind and body say the rest.
use Rattle.std.proofs.Common.{◌≡◌, ℕ, ◌≤◌, List, [], ◌∷◌, Bool, true, false, ◌&&◌, ◌==◌, nat_le, length, slice_index}
use Rattle.std.proofs.Common.{slice_set, is_some, Some, None, Option, bytes_eq, refl, sym, ◌∙◌, ap, subst, arith}
use Rattle.std.proofs.lemmas.Bool.{and_parts, and_from, and_right, false_from_ne_true, leb-true, le-leb, eqb-true, eq-eqb, false≢true}
use Rattle.lwb_base.specs.Messages.{Schedule}
use Rattle.lwb_packets.specs.Body.{body}
use Rattle.lwb_packets.specs.declared.kind.Kind.{Kind}
use Rattle.lwb_packets.specs.declared.kind.Kind.TheVariants as kinds
use Rattle.schedule_codec.specs.Reading.{schedule_of, is_schedule}
use Rattle.schedule_codec.specs.Spelling.{schedule_spelling}
use Rattle.schedule_codec.proofs.Readings.{parts_of, range_from, spelled_by, read_as, bytes_same}
use Rattle.glossy_relay.specs.Relaying.{is_spelling, counter_of}
use Rattle.lwb_packets.specs.Ranges.{between}

-- the fourth of eight tests is of the counter
fourth : (x count e f g h : Bool) → ((((x && count) && e) && f) && g && h) ≡ true → count ≡ true
fourth x count e f g h is = (and_parts x count (and_parts _ e (and_parts _ f (and_parts _ g (and_parts _ h is).0).0).0).0).1

first_of_eight : (a b c count e f g h : Bool) → (((((((a && b) && c) && count) && e) && f) && g) && h) ≡ true → a ≡ true
first_of_eight a b c count e f g h is =
    let fourth = and_parts _ count (and_parts _ e (and_parts _ f (and_parts _ g (and_parts _ h is).0).0).0).0 in
    (and_parts a b (and_parts _ c fourth.0).0).0

another_fourth : (x count other e f g h : Bool) → ((((x && count) && e) && f) && g && h) ≡ true → other ≡ true → ((((x && other) && e) && f) && g && h) ≡ true
another_fourth x count other e f g h is passes =
    let eighth = and_parts _ h is in
    let seventh = and_parts _ g eighth.0 in
    let sixth = and_parts _ f seventh.0 in
    let fifth = and_parts _ e sixth.0 in
    let three = and_parts x count fifth.0 in
    and_from _ h (and_from _ g (and_from _ f (and_from _ e (and_from x other three.0 passes) fifth.1) sixth.1) seventh.1) eighth.1

-- the parts of a schedule that spells these bytes, and that the counter is in them by its range alone
pub record Again (a b c : ℕ) (rest : List ℕ) : Type 0 where
  pub count : c ≤ 11
  pub again : (d : ℕ) → d ≤ 11 → is_schedule (a ∷ b ∷ d ∷ rest) ≡ true

module _ (a b c : ℕ) (rest : List ℕ) where
  schedule_again : is_schedule (a ∷ b ∷ c ∷ rest) ≡ true → Again a b c rest
  schedule_again is = by_value (schedule_of (a ∷ b ∷ c ∷ rest)) refl is
    where
      by_value : (o : Option Schedule) → schedule_of (a ∷ b ∷ c ∷ rest) ≡ o → is_some o ≡ true → Again a b c rest
      by_value None value is = absurd (false≢true is)
      by_value (Some s) value is =
          let both = and_parts _ _ (spelled_by (a ∷ b ∷ c ∷ rest) s value) in
          let parts = parts_of s b c both.0 in
          let kind = and_parts _ _ both.1 in
          let tail = (and_parts _ _ (and_parts _ _ kind.1).1).1 in
          record {
            count = parts.count;
            again = λ d low.
                let range = range_from s b d (record {
                  count = low;
                  place = parts.place;
                  rank = parts.rank;
                  boot = parts.boot;
                  gap = parts.gap;
                  contend = parts.contend;
                  few = parts.few;
                  acks = parts.acks;
                  ordered = parts.ordered;
                  owners = parts.owners;
                }) in
                let bytes = and_from _ _ kind.0 (and_from _ _ (eq-eqb b b refl) (and_from _ _ (eq-eqb d d refl) tail)) in
                ap is_some (read_as (a ∷ b ∷ d ∷ rest) s (and_from _ _ range bytes));
          }

  low : (kind : Kind) → is_spelling kind (a ∷ b ∷ c ∷ rest) ≡ true → c ≤ 11
  low kinds.Schedule is = (schedule_again is).count
  low kinds.Payload is = leb-true c 11 (fourth _ (nat_le c 11) _ _ _ _ is)
  low kinds.Request is = leb-true c 11 (fourth _ (nat_le c 11) _ _ _ _ is)

  again : (kind : Kind) (d : ℕ) → is_spelling kind (a ∷ b ∷ c ∷ rest) ≡ true → d ≤ 11 → is_spelling kind (a ∷ b ∷ d ∷ rest) ≡ true
  again kinds.Schedule d is within = (schedule_again is).again d within
  again kinds.Payload d is within = another_fourth _ (nat_le c 11) (nat_le d 11) _ _ _ _ is (le-leb d 11 within)
  again kinds.Request d is within = another_fourth _ (nat_le c 11) (nat_le d 11) _ _ _ _ is (le-leb d 11 within)

by_counter : (kind : Kind) (a b c d : ℕ) (rest : List ℕ) → is_spelling kind (a ∷ b ∷ c ∷ rest) ≡ true → is_spelling kind (a ∷ b ∷ d ∷ rest) ≡ nat_le d 11
by_counter kind a b c d rest is = by_range (nat_le d 11) refl
  where
    by_range : (within : Bool) → nat_le d 11 ≡ within → is_spelling kind (a ∷ b ∷ d ∷ rest) ≡ within
    by_range true inside = again a b c rest kind d is (leb-true d 11 inside)
    by_range false past = false_from_ne_true (is_spelling kind (a ∷ b ∷ d ∷ rest))
        (λ spelled. false≢true (sym past ∙ le-leb d 11 (low a b d rest kind spelled)))

-- no spelling ends before its counter
long : (kind : Kind) (p : List ℕ) → is_spelling kind p ≡ true → 3 ≤ length p
long kinds.Schedule p is = by_value (schedule_of p) refl is
  where
    by_value : (o : Option Schedule) → schedule_of p ≡ o → is_some o ≡ true → 3 ≤ length p
    by_value None value is = absurd (false≢true is)
    by_value (Some s) value is =
        let both = and_parts _ _ (spelled_by p s value) in
        let same = ap length (bytes_same (schedule_spelling s (slice_index p 1) (slice_index p 2)) p both.1) in
        omega (arith, same)
long kinds.Payload p is = let size = and_parts _ _ (first_of_eight (between 8 104 (length p)) _ _ _ _ _ _ _ is) in omega (arith, leb-true 8 (length p) size.0)
long kinds.Request p is = omega (arith, eqb-true (length p) 7 (first_of_eight (length p == 7) _ _ _ _ _ _ _ is))

-- a packet with the body of a spelling is one if and only if its counter is in range
same_spelling : (kind : Kind) (first p : List ℕ) → is_spelling kind first ≡ true → bytes_eq (body first) (body p) ≡ true
    → is_spelling kind p ≡ nat_le (counter_of p) 11
same_spelling kind [] p is same = absurd (omega (arith, long kind [] is))
same_spelling kind (a ∷ []) p is same = absurd (omega (arith, long kind (a ∷ []) is))
same_spelling kind (a ∷ b ∷ []) p is same = absurd (omega (arith, long kind (a ∷ b ∷ []) is))
same_spelling kind (a ∷ b ∷ c ∷ rest) [] is same = absurd (false≢true same)
same_spelling kind (a ∷ b ∷ c ∷ rest) (x ∷ []) is same = absurd (false≢true (and_parts _ _ same).1)
same_spelling kind (a ∷ b ∷ c ∷ rest) (x ∷ y ∷ []) is same = absurd (false≢true (and_parts _ _ (and_parts _ _ same).1).1)
same_spelling kind (a ∷ b ∷ c ∷ rest) (x ∷ y ∷ d ∷ more) is same =
    let whole : a ∷ b ∷ 0 ∷ rest ≡ x ∷ y ∷ 0 ∷ more = bytes_same (a ∷ b ∷ 0 ∷ rest) (x ∷ y ∷ 0 ∷ more) same in
    let own : a ∷ b ∷ d ∷ rest ≡ x ∷ y ∷ d ∷ more = ap (λ (l : List ℕ). slice_set l 2 d) whole in
    subst (λ (l : List ℕ). is_spelling kind l ≡ nat_le d 11) own (by_counter kind a b c d rest is)

-- so the test of the counter stands for that of the whole spelling
pub counter_tells : (kind : Kind) (first p : List ℕ) → is_spelling kind first ≡ true
    → (nat_le (counter_of p) 11 && bytes_eq (body first) (body p)) ≡ (is_spelling kind p && bytes_eq (body first) (body p))
counter_tells kind first p is = by_body (bytes_eq (body first) (body p)) (same_spelling kind first p is)
  where
    by_body : (same : Bool) → (same ≡ true → is_spelling kind p ≡ nat_le (counter_of p) 11) → (nat_le (counter_of p) 11 && same) ≡ (is_spelling kind p && same)
    by_body true spelled = ap (λ (b : Bool). b && true) (sym (spelled refl))
    by_body false spelled = and_right (nat_le (counter_of p) 11) false refl ∙ sym (and_right (is_spelling kind p) false refl)
