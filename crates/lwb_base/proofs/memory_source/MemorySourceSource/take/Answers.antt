use Rattle.std.proofs.Common.{◌≡◌, ℕ, List, ◌-◌, length, drop, take, arith, length-drop, length-append, length-take-le, sym, ◌∙◌, ap}
use Rattle.std.proofs.lemmas.Grind.{common_steps}
use Rattle.lwb_base.specs.Outside.{SourceState}
use Rattle.lwb_base.proofs.KnownPieces.{moved_front, none_left}
use Rattle.lwb_base.proofs.memory_source.MemorySourceSource.take.Goals as goal

pub returns-clause-bytes : goal.returns-clause-bytes
returns-clause-bytes c =
    let whole = c.self.inside.data.items in
    let at = c.self.inside.at in
    let n = c.min-count.result in
    let left = take (length c.deref-2.result.now - at) (drop at c.deref-2.result.now) in
    let is : left ≡ drop at whole = grind (arith, common_steps) in
    let long : length left ≡ length (drop at whole) = ap length is in
    let front : c.copy_from_slice.new.self ≡ take n (drop at whole) = c.copy_from_slice.ensures.after ∙ ap (λ (l : List ℕ). take n l) is in (
      sym (ap (λ (v : SourceState). v.left) c.self.view_is) ∙ moved_front whole c.args.room.now c.copy_from_slice.new.self at n front (omega (arith, long)),
      λ none some. none_left whole at n c.self.inside.most (length c.args.room.now) (omega arith)
          (omega (
            arith,
            some,
            length-append c.copy_from_slice.new.self (drop n c.args.room.now),
            length-drop n c.args.room.now,
            ap length front,
            length-take-le n (drop at whole) (omega (arith, long)),
          )) (omega (arith, long)) none,
    )
