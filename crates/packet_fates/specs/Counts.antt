-- How many packets of streams had each fate.
use Rattle.std.specs.Prelude.{◌≡◌, ◌<◌, ◌+◌, ◌^◌, ℕ, List, true, count_by}
use Rattle.std.specs.BTreeMap.{get}
use Rattle.std.specs.Option.{unwrap_or}
use Rattle.bus_terms.specs.Fates.{is_cleared, is_dropped, is_sent, is_waiting, of_stream}
use Rattle.bus_terms.specs.declared.packets.Fate.{Fate}
use Rattle.bus_terms.specs.declared.packets.Fate.TheVariants.{Cleared, Dropped, Sent, Waiting}
use Rattle.bus_terms.specs.declared.packets.PutFate.{PutFate}
use Rattle.bus_terms.specs.declared.packets.StreamCounts.{StreamCounts}
use Rattle.packet_fates.specs.Clearings.{queue_cmp}
use Rattle.packet_fates.specs.declared.stream_tally.StreamTally.{StreamTally}

-- of stream i of node v in these fates
abbrev pub counts_in : List PutFate → ℕ → ℕ → StreamCounts
counts_in fates v i = record {
  node = v;
  stream = i;
  put = count_by (of_stream v i (λ fate. true)) fates;
  dropped = count_by (of_stream v i is_dropped) fates;
  sent = count_by (of_stream v i is_sent) fates;
  waiting = count_by (of_stream v i is_waiting) fates;
  cleared = count_by (of_stream v i is_cleared) fates;
}

abbrev pub no_counts : ℕ → ℕ → StreamCounts
no_counts v i = record { node = v; stream = i; put = 0; dropped = 0; sent = 0; waiting = 0; cleared = 0 }

-- with a packet of this fate
abbrev pub counts_after : StreamCounts → Fate → StreamCounts
counts_after c Dropped = record c { put = c.put + 1; dropped = c.dropped + 1 }
counts_after c Waiting = record c { put = c.put + 1; waiting = c.waiting + 1 }
counts_after c (Cleared frame) = record c { put = c.put + 1; cleared = c.cleared + 1 }
counts_after c (Sent frame rank slot receivers at_host) = record c { put = c.put + 1; sent = c.sent + 1 }

-- each count may rise by one
pub record HasRoom (c : StreamCounts) : Type 0 where
  pub put_fits : c.put + 1 < 2 ^ 32
  pub dropped_fits : c.dropped + 1 < 2 ^ 32
  pub sent_fits : c.sent + 1 < 2 ^ 32
  pub waiting_fits : c.waiting + 1 < 2 ^ 32
  pub cleared_fits : c.cleared + 1 < 2 ^ 32

abbrev pub tally_at : StreamTally → ℕ → ℕ → StreamCounts
tally_at t v i = unwrap_or (get queue_cmp t.counts (v, i)) (no_counts v i)

abbrev pub IsCountOf : List PutFate → StreamTally → Type 0
IsCountOf fates t = (v i : ℕ) → tally_at t v i ≡ counts_in fates v i
