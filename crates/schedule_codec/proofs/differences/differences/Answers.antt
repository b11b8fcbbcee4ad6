use Rattle.std.proofs.Common.{◌≡◌, ◌∷◌, [], ◌++◌, ◌+◌, ◌-◌, List, ℕ, length, drop, get_or, ap, sym, ◌∙◌, arith, append_assoc}
use Rattle.std.proofs.lemmas.List.{drop_all, append-nil}
use Rattle.schedule_codec.specs.Packing.{fit}
use Rattle.schedule_codec.specs.OwnerLists.{differences}
use Rattle.schedule_codec.proofs.Widths.{next_code, codes_of, length-differences, differences_fit}
use Rattle.schedule_codec.proofs.differences.differences.Goals as goal

pub overflow_sub-code : goal.overflow_sub-code
overflow_sub-code c = (next_code c.loop-code.last c.args.rest.now c.loop-code.code-index c.loop-code-test.true c.loop-code.invariant.ascending).0

pub loop-code-preserved : goal.loop-code-preserved
loop-code-preserved c =
    let rest = c.args.rest.now in
    let i = c.loop-code.code-index in
    let code : ℕ = get_or rest i 0 in
    let difference : List ℕ = (code - c.loop-code.last) ∷ [] in
    let next = next_code c.loop-code.last rest i c.loop-code-test.true c.loop-code.invariant.ascending in
    record {
      many = omega (arith, c.push.ensures.len);
      ascending = next.1;
      same = ap (λ (l : List ℕ). l ++ differences (code ∷ drop (i + 1) rest)) c.push.ensures.items
          ∙ append_assoc c.loop-code.found.items difference (differences (code ∷ drop (i + 1) rest))
          ∙ ap (λ (l : List ℕ). c.loop-code.found.items ++ l) (sym next.2)
          ∙ c.loop-code.invariant.same;
    }

pub loop-code-init : goal.loop-code-init
loop-code-init c =
    let codes = codes_of c.args.first c.args.rest.now c.requires in
    record {
      many = ap length c.new-found.ensures;
      ascending = codes.ascending;
      same = ap (λ (l : List ℕ). l ++ differences (c.args.first ∷ c.args.rest.now)) c.new-found.ensures;
    }

pub push-requires : goal.push-requires
push-requires c = let codes = codes_of c.args.first c.args.rest.now c.requires in (omega arith, omega arith)

pub returns : goal.returns
returns c =
    let codes = codes_of c.args.first c.args.rest.now c.requires in
    let none = drop_all c.loop-code.code-index c.args.rest.now c.loop-code-test.false in
    let all : c.loop-code.found.items ≡ differences (c.args.first ∷ c.args.rest.now) =
    sym (append-nil c.loop-code.found.items) ∙ ap (λ (l : List ℕ). c.loop-code.found.items ++ differences (c.loop-code.last ∷ l)) (sym none)
    ∙ c.loop-code.invariant.same in
    record {
      value = all;
      many = ap length all ∙ length-differences c.args.first c.args.rest.now;
      small = ap (λ l. fit 10 l) all ∙ differences_fit c.args.first c.args.rest.now codes.others;
    }
