use Rattle.scenario_maker.specs.Made.{frame_lines}
use Rattle.scenario_maker.proofs.LoopSteps.{frame_added}
use Rattle.scenario_maker.proofs.script_lines.add_frames.Goals as goal

pub loop-frame-preserved : goal.loop-frame-preserved
loop-frame-preserved c =
    let f = frame_lines c.args.nodes c.args.frames in
    let before = c.args.lines.now.items in
    frame_added f before c.loop-frame.lines.items c.add_frame.new.lines.items c.loop-frame.frame c.loop-frame.invariant c.in_ok-add_frame.ensures
