-- Links whose losses a seed draws, as contracts see them, and what is left of a mask.
use Rattle.std.specs.Prelude.{◌≡◌, ℕ, List, Bool, ◌&&◌, nat_lt, if◌then◌else◌}
use Rattle.std.specs.Int.{bit_at}
use Rattle.lwb_base.specs.declared.limits.TheConstants.{FLOOD_STEPS}
use Rattle.link_trace.specs.Passes.{Lines}
use Rattle.link_trace.specs.Sealed.{Traced}
use Rattle.drawn_links.specs.DrawnLosses.{SLOTS, drawn, is_drawn}
use Rattle.drawn_links.specs.declared.ratio_line.RatioLine.{RatioLine}

-- the trace, the ratios of its links, the seed, and the number of frames in which coins are thrown
pub record Drawing : Type 0 where
  pub trace : Traced
  pub ratios : List RatioLine
  pub seed : ℕ
  pub frames : ℕ

-- the lines of the trace with the losses that the seed draws
abbrev pub lines_of : Drawing → Lines
lines_of d = drawn d.trace.lines d.ratios d.seed d.frames

-- coins are thrown in step k of slot j of frame f, of this many frames
abbrev pub has_coins : ℕ → ℕ → ℕ → ℕ → Bool
has_coins frames f j k = nat_lt f frames && (nat_lt j SLOTS && nat_lt k FLOOD_STEPS)

-- the coin of the link from u to v is thrown in that step, and it does not pass
abbrev pub is_lost : Drawing → ℕ → ℕ → ℕ → ℕ → ℕ → Bool
is_lost d f j k u v = has_coins d.frames f j k && is_drawn d.ratios d.seed f j k u v

-- the bits of a mask without those of the places at which the test holds
abbrev pub IsWithout : (ℕ → Bool) → ℕ → ℕ → Type 0
IsWithout test mask kept = (i : ℕ) → bit_at kept i ≡ (if test i then 0 else bit_at mask i)
