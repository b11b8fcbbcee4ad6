use Rattle.std.proofs.Common.{◌≡◌, ◌≤◌, ◌∙◌, ◌++◌, [], ◌∷◌, length, sym, arith}
use Rattle.std.proofs.lemmas.Bool.{eqb-true, eqb-false}
use Rattle.std.proofs.lemmas.List.{take_all, take_at, length_push}
use Rattle.host_scheduler.proofs.turns.push_slot.Goals as goal

pub returns-then-not-is_full : goal.returns-then-not-is_full
returns-then-not-is_full c =
    let old = c.args.given.now.items in
    let apart = eqb-false (length old) 40 (sym c.is_full.ensures.value ∙ c.if-not-is_full.true) in
    let fits : length old ≤ 40 = c.is_full.ensures.fits in
    let room : length (old ++ c.args.code ∷ []) ≤ 40 = omega (arith, length_push old c.args.code) in
    c.push.ensures.items ∙ sym (take_all 40 (old ++ c.args.code ∷ []) room)

pub returns-else-not-is_full : goal.returns-else-not-is_full
returns-else-not-is_full c =
    let old = c.args.given.now.items in
    let full : length old ≡ 40 = eqb-true (length old) 40 (sym c.is_full.ensures.value ∙ c.if-not-is_full.false) in
    sym (take_at old (c.args.code ∷ []) 40 full)
