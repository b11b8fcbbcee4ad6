use Rattle.std.proofs.Common.{◌≡◌, ◌++◌, ◌∷◌, [], List, map, sym, ◌∙◌, ap, arith, rules, length, length-append}
use Rattle.std.specs.List.{range_with_len}
use Rattle.std.proofs.lemmas.List.FromFn.{map-range_with_len_more}
use Rattle.bus_rules.specs.declared.part.Part.{Part}
use Rattle.bus_rules.specs.Slots.{part_of}
use Rattle.plain_bus.proofs.leading.parts_of_member.Goals as goal

pub loop-slot-preserved : goal.loop-slot-preserved
loop-slot-preserved c =
    let part = part_of c.args.member.now.core.plan in
    let j = c.loop-slot.slot in
    let pushed : c.push.new.self.items ≡ c.loop-slot.parts.items ++ c.part.result ∷ [] = search rules in
    record {
      count = ap length pushed ∙ omega (arith, length-append c.loop-slot.parts.items (c.part.result ∷ []), c.loop-slot.invariant.count);
      parts = pushed
          ∙ ap (λ (l : List Part). l ++ c.part.result ∷ []) c.loop-slot.invariant.parts
          ∙ ap (λ (q : Part). map part (range_with_len 0 j) ++ q ∷ []) c.part.ensures.value
          ∙ sym (map-range_with_len_more part 0 j j (omega arith));
    }
