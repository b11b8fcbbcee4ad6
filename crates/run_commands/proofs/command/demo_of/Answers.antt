use Rattle.std.proofs.Common.{◌≡◌, Bool, true, false, not, codes, map, string_bytes, refl, sym, ◌∙◌, arith}
use Rattle.std.proofs.lemmas.Slice.Eq.{bytes_eq-Decides}
use Rattle.run_commands.proofs.Words.{four_words, four_same, demo_asked}
use Rattle.run_commands.proofs.command.demo_of.Goals as goal

but_not : (b : Bool) → not b ≡ false → b ≡ true
but_not true is = refl
but_not false is = sym is

pub returns : goal.returns
returns c =
    let seed = (c.in_ok-seed.ensures c.in_ok-seed.seed).0 refl in
    let nodes = (c.in_ok-nodes.ensures c.in_ok-nodes.nodes).0 refl in
    let frames = (c.in_ok-frames.ensures c.in_ok-frames.frames).0 refl in
    let demo = (bytes_eq-Decides c.as_str.result.now (codes "demo")).0 (but_not _ (sym c.ne.ensures ∙ c.if-ne.false)) in
    let words = four_words c.args.words.now c.word-item.result c.seed-item.result c.nodes-item.result c.frames-item.result
    (omega arith) c.word-item.is c.seed-item.is c.nodes-item.is c.frames-item.is in
    let spells = words ∙ four_same (sym c.as_str.ensures.value ∙ demo) (sym c.as_str-2.ensures.value ∙ seed.0) (sym c.as_str-3.ensures.value ∙ nodes.0)
    (sym c.as_str-4.ensures.value ∙ frames.0) in
    demo_asked
    (map string_bytes c.args.words.now) c.in_ok-seed.seed c.in_ok-nodes.nodes c.in_ok-frames.frames c.sized.result spells seed.1 nodes.1 frames.1
    c.sized.ensures
