use Rattle.law_trails.proofs.ChannelsHeard.{channel_kept, heard_on}
use Rattle.law_trails.proofs.trail_links.hearings_leave_the_channel.Goals as goal

pub returns : goal.returns
returns c = record { kept = channel_kept; tuned = heard_on }
