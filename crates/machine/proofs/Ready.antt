-- A hub is ready for its critical requests: what holds at every call, so that they are served in time. It speaks of owner, turn mark,
-- policy, copies and requests, each by itself, and not of the memory.
use Rattle.std.proofs.Common.{◌≡◌, ℕ, ◌+◌, ◌-◌, ◌<◌, ◌≤◌, max, true, ◌&&◌, arith, Option}
use Rattle.std.proofs.lemmas.Bool.{lt-ltb, le-ltb}
use Rattle.std.proofs.lemmas.Bool.Decides.{nat_tests}
use Rattle.setup.specs.Bound.{Caps, bound}
use Rattle.policy.specs.Timing.{Timing, Lawful, later}
use Rattle.setup.specs.Classes.{of_class}
use Rattle.setup.specs.declared.class.Class.{Class}
use Rattle.setup.specs.declared.class.Class.TheVariants.{Critical, NonCritical}
use Rattle.machine.specs.declared.held.Held.{Held}
use Rattle.machine.specs.declared.request.Request.{Request}
use Rattle.machine.specs.declared.sizes.Sizes.{Sizes}
use Rattle.machine.specs.Granting.{in_way}
use Rattle.machine.specs.Order.{queue_length}
use Rattle.machine.specs.Parts.{timer, is_ordered_on, op_of}
use Rattle.machine.specs.State.{State, class_of, is_of}
use Rattle.machine.proofs.Counting.{count_same}
use Rattle.machine.proofs.Due.{Due}
use Rattle.machine.proofs.Owners.{next_owner, next_below}
use Rattle.machine.proofs.Queues.{Seat, seated, sits, len, Queues}
use Rattle.machine.proofs.Seats.{seat_of}

abbrev pub timers : State → ℕ → ℕ → ℕ
timers s l j = timer Critical (s.copies l j)

abbrev pub seats : State → ℕ → Seat
seats s j = seat_of (s.requests j)

-- what is in the way of the line's first critical requests, up to place a, is over in n slots
abbrev pub Over : Sizes → (ℕ → ℕ → Option Held) → (ℕ → Request) → ℕ → ℕ → ℕ → Type 0
Over z copies requests l a n = (i j b : ℕ) → i < z.critical → seat_of (requests i) ≡ seated l b → b ≤ a
    → in_way i (op_of (requests i)) j (copies l j) ≡ true → timer Critical (copies l j) ≤ n

abbrev pub OverIn : Sizes → State → ℕ → ℕ → ℕ → Type 0
OverIn z s = Over z s.copies s.requests

pub record Fit (z : Sizes) (caps : Caps) : Type 0 where
  pub some_critical : 1 ≤ z.critical
  pub few_critical : z.critical ≤ z.cores
  pub some_caps : (holder : Class) → 1 ≤ of_class caps holder

pub record InTurn (z : Sizes) (owner mark : ℕ) : Type 0 where
  pub owner_critical : owner < z.critical
  pub mark_low : z.critical ≤ mark
  pub mark_high : mark ≤ z.cores

pub record Timed (caps : Caps) (timing : Timing) : Type 0 where
  pub lawful : Lawful timing
  pub same_caps : timing.caps ≡ caps

module _ (z : Sizes) (caps : Caps) where
  -- the most slots from one grant on a line to the next, and the longest hold against a critical requester
  abbrev pub gap : ℕ
  gap = caps.critical + z.critical - 1

  abbrev pub longest_hold : ℕ
  longest_hold = max caps.critical caps.noncritical

  -- what core i's request is due, where the coming slot belongs to the owner; d is 1 between calls, and 0 inside a slot, after its time has
  -- passed
  abbrev pub DueIn : ℕ → (ℕ → ℕ → Option Held) → (ℕ → Request) → ℕ → ℕ → Request → Type 0
  DueIn d copies requests owner i r =
      Due z.critical gap (bound z.critical caps) d (Over z copies requests) (λ j. seat_of (requests j)) owner i r

  pub record Timely (d owner mark : ℕ) (timing : Timing) (copies : ℕ → ℕ → Option Held) (requests : ℕ → Request) : Type 0 where
    pub in_turn : InTurn z owner mark
    pub timed : Timed caps timing
    pub capped : (l j : ℕ) → timer Critical (copies l j) ≤ longest_hold - 1 + d
    pub queues : Queues z.critical z.cores (λ j. seat_of (requests j))
    pub due : (i : ℕ) → i < z.critical → DueIn d copies requests owner i (requests i)

  abbrev pub Ready : ℕ → State → Type 0
  Ready d s = Timely d s.owner s.mark s.timing s.copies s.requests

pub queue_seats : (z : Sizes) (s : State) (l : ℕ) → queue_length z s Critical l ≡ len z.critical z.cores (seats s) l
unfolding queue_length len
queue_seats z s l = count_same (λ k. is_of z Critical k && is_ordered_on l (s.requests k)) (sits z.critical z.cores (seats s) l)
    z.cores
    (λ k _. grind arith)

pub class_critical : (z : Sizes) (u : ℕ) → u < z.critical → class_of z u ≡ Critical
class_critical z u h = rw (lt-ltb u z.critical h)

pub class_other : (z : Sizes) (u : ℕ) → z.critical ≤ u → class_of z u ≡ NonCritical
class_other z u h = rw (le-ltb u z.critical h)

pub timed_later : (caps : Caps) (timing : Timing) → Timed caps timing → Timed caps (later timing)
timed_later caps timing t =
    record {
      lawful = record {
        some_cap = t.lawful.some_cap;
        few_cap = t.lawful.few_cap;
        few_hold = λ k. t.lawful.few_hold (k + 1);
        capped = λ k. t.lawful.capped (k + 1);
      };
      same_caps = t.same_caps;
    }

module _ (z : Sizes) (caps : Caps) (fit : Fit z caps) where
  pub turn_after : (owner mark : ℕ) → InTurn z owner mark → InTurn z (next_owner z.critical owner) mark
  turn_after owner mark t =
      record { owner_critical = next_below z.critical owner fit.some_critical; mark_low = t.mark_low; mark_high = t.mark_high }

  pub hold_small : (d : ℕ) (s : State) (u l : ℕ) → Ready z caps d s → s.timing.hold 0 u (class_of z u) l Critical ≤ longest_hold z caps
  hold_small d s u l r =
      grind (arith, nat_tests, r.timed.lawful.capped 0 u Critical l, r.timed.lawful.capped 0 u NonCritical l, r.timed.same_caps)
