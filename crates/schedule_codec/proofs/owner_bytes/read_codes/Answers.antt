use Rattle.std.proofs.Common.{◌≡◌, ℕ, List, ◌∷◌, ◌/◌, ◌%◌, true, drop, Some, inl, inr, ap, sym, subst, ◌∙◌, arith}
use Rattle.std.proofs.lemmas.Bool.{both_ways, eq-eqb, eqb-true}
use Rattle.std.specs.List.{list_all}
use Rattle.lwb_packets.specs.Ranges.{between}
use Rattle.schedule_codec.specs.Packing.{fit, packed}
use Rattle.schedule_codec.specs.OwnerLists.{are_owners, owners_bytes, width_of}
use Rattle.schedule_codec.specs.Reading.{summed}
use Rattle.schedule_codec.proofs.CodeBytes.{codes_in, codes_spelled, summed_are_owners, unpackable, behind_two}
use Rattle.schedule_codec.proofs.CodeBytes.{fit_wider, some_where, if_some_where, same_items}
use Rattle.schedule_codec.proofs.owner_bytes.read_codes.Goals as goal

pub returns-then-count-gt-DATA_SLOTS-clause-all : goal.returns-then-count-gt-DATA_SLOTS-clause-all
returns-then-count-gt-DATA_SLOTS-clause-all c =
    λ cs are is.
    let k = codes_in c.args.count c.args.bytes.now cs c.requires are is in
    let codes = k.2 in
    let start = codes.start in
    let narrow = codes.narrow in
    let few = codes.few in
    elim c.then-count-gt-DATA_SLOTS.either [ inl many ↦ absurd (omega arith) | inr wide ↦ absurd (omega arith) ]

pub returns-in_err-steps-clause-all : goal.returns-in_err-steps-clause-all
returns-in_err-steps-clause-all c =
    λ cs are is.
    let k = codes_in c.args.count c.args.bytes.now cs c.requires are is in
    let none = c.in_err-steps.ensures.all k.1 (unpackable c.args.count c.read_u16-start.result c.args.bytes.now cs k.0 k.1 k.2 c.read_u16-start.ensures) in
    cc none

pub returns-then-not-is_least-clause-all : goal.returns-then-not-is_least-clause-all
returns-then-not-is_least-clause-all c =
    λ cs are is.
    let k = codes_in c.args.count c.args.bytes.now cs c.requires are is in
    let codes = k.2 in
    let start = codes.start in
    let narrow = codes.narrow in
    let width : ℕ = c.read_u16-start.result % 16 in
    let same = same_items c.in_ok-steps.steps k.1 (c.in_ok-steps.ensures.all k.1
    (unpackable c.args.count c.read_u16-start.result c.args.bytes.now cs k.0 k.1 codes c.read_u16-start.ensures)) in
    let least : width_of c.as_slice.result.now ≡ width = ap (λ l. width_of l) (c.as_slice.ensures.value ∙ same) ∙ omega arith in
    absurd (both_ways c.is_least.result c.if-not-is_least.true (c.is_least.ensures ∙ eq-eqb (width_of c.as_slice.result.now) width least))

pub summed-requires-clause-small : goal.summed-requires-clause-small
summed-requires-clause-small c = ap (λ l. fit 10 l) c.as_slice-2.ensures.value
    ∙ fit_wider (c.read_u16-start.result % 16) 10 c.in_ok-steps.steps.items (omega arith) c.in_ok-steps.ensures.some.fits

pub returns-clause-some : goal.returns-clause-some
returns-clause-some c =
    let bs = c.args.bytes.now in
    let count = c.args.count in
    let start = c.read_u16-start.result in
    let steps = c.in_ok-steps.steps.items in
    let packs = c.in_ok-steps.ensures.some in
    let least : width_of steps ≡ start % 16 = ap (λ l. width_of l) (sym c.as_slice.ensures.value)
    ∙ eqb-true (width_of c.as_slice.result.now) (start % 16) (sym c.is_least.ensures ∙ c.if-not-is_least.false) in
    let many = packs.many in
    let byte = c.type_inv.bytes 1 in
    let first = c.read_u16-start.ensures in
    let bytes : packed (width_of steps) steps ≡ drop 2 bs = ap (λ w. packed w steps) least ∙ packs.bytes ∙ behind_two bs c.in-len2-up.len_at_least in
    let slice = c.as_slice-2.ensures.value in
    if_some_where c.summed.result (list_all (between 4 803) (summed (start / 16) c.as_slice-2.result.now) ≡ true) (summed (start / 16) c.as_slice-2.result.now)
    (λ cs. (are_owners cs ≡ true) × (owners_bytes cs ≡ count ∷ bs)) c.summed.ensures
    (subst (λ (l : List ℕ). list_all (between 4 803) (summed (start / 16) l) ≡ true → (are_owners (summed (start / 16) l) ≡ true)
    × (owners_bytes (summed (start / 16) l) ≡ count ∷ bs)) (sym slice)
    (λ all. (
      summed_are_owners (start / 16) steps (omega arith) all,
      codes_spelled count (start / 16) bs steps c.in-len2-up.len_at_least (omega arith) (omega arith) (omega arith) bytes,
    )))

pub returns-clause-all : goal.returns-clause-all
returns-clause-all c =
    λ cs are is.
    let k = codes_in c.args.count c.args.bytes.now cs c.requires are is in
    let codes = k.2 in
    let start = codes.start in
    let narrow = codes.narrow in
    let same = same_items c.in_ok-steps.steps k.1 (c.in_ok-steps.ensures.all k.1
    (unpackable c.args.count c.read_u16-start.result c.args.bytes.now cs k.0 k.1 codes c.read_u16-start.ensures)) in
    let first : c.read_u16-start.result / 16 ≡ k.0 = omega arith in
    let steps : c.as_slice-2.result.now ≡ k.1 = c.as_slice-2.ensures.value ∙ same in
    let whole : summed (c.read_u16-start.result / 16) c.as_slice-2.result.now ≡ summed k.0 k.1 =
    ap (λ n. summed n c.as_slice-2.result.now) first ∙ ap (λ l. summed k.0 l) steps in
    some_where c.summed.result (list_all (between 4 803) (summed (c.read_u16-start.result / 16) c.as_slice-2.result.now) ≡ true)
    (summed (c.read_u16-start.result / 16) c.as_slice-2.result.now) c.summed.ensures
    (ap (λ l. list_all (between 4 803) l) whole ∙ codes.all)
    ∙ ap (λ l. Some l) (whole ∙ codes.whole)
