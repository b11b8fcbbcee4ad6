use Rattle.air_log.proofs.TrailSendings.{at_tick}
use Rattle.law_trails.proofs.SentInTrails.{sent_below, sent_known, sent_lasts}
use Rattle.law_trails.proofs.trail_links.sendings_stand_in_their_trails.Goals as goal

pub returns : goal.returns
returns c = record { below = sent_below; known = sent_known; lasts = sent_lasts; in_turn = at_tick }
