-- The numbers of a profile. Times are ticks of 1/64 µs, lengths are bytes.
use Rattle.std.specs.Prelude.{◌≡◌, ℕ, ◌+◌, ◌*◌, ◌≤◌, ◌⊎◌, Bool, ◌==◌}

pub record Numbers : Type 0 where
  pub byte : ℕ
  pub turn : ℕ
  pub delta : ℕ
  pub listen : ℕ
  pub slot : ℕ
  pub close : ℕ
  pub lead : ℕ
  pub end : ℕ
  pub frame : ℕ
  pub seconds : ℕ
  pub packet_max : ℕ
  pub payload_max : ℕ
  pub contend : ℕ

abbrev pub one : Numbers
one = record {
  byte = 2048;
  turn = 12288;
  delta = 32;
  listen = 64000;
  slot = 2112000;
  close = 2096000;
  lead = 64000000;
  end = 204800000;
  frame = 256000000;
  seconds = 4;
  packet_max = 64;
  payload_max = 32;
  contend = 0;
}

-- the second profile, with this many contention slots named in its schedules; 0 for none
abbrev pub contended : ℕ → Numbers
contended c = record {
  byte = 2048;
  turn = 12288;
  delta = 32;
  listen = 64000;
  slot = 3584000;
  close = 3568000;
  lead = 64000000;
  end = 288000000;
  frame = 320000000;
  seconds = 5;
  packet_max = 125;
  payload_max = 96;
  contend = c;
}

-- which of the two it is: a frame of the first counts 4 seconds, one of the second 5
abbrev pub is_one : Numbers → Bool
is_one p = p.seconds == one.seconds

-- the numbers are those of a constructor
abbrev pub IsProfile : Numbers → Type 0
IsProfile p = (p ≡ one) ⊎ ((p ≡ contended p.contend) × (p.contend ≤ 4))

-- a packet of n bytes on the air
abbrev pub airtime : Numbers → ℕ → ℕ
airtime p n = (n + 8) * p.byte

-- from the start of a step to the start of the next
abbrev pub step : Numbers → ℕ → ℕ
step p n = airtime p n + p.turn
