-- Step 4 of a slot: the user's request takes its place in the order of its line.
use Rattle.std.specs.Prelude.{ℕ, ◌&&◌}
use Rattle.setup.specs.declared.class.Class.{Class}
use Rattle.machine.specs.declared.request.Request.{Request}
use Rattle.machine.specs.declared.request.Request.TheVariants.{Free, Asked, Ordered}
use Rattle.machine.specs.declared.sizes.Sizes.{Sizes}
use Rattle.machine.specs.Parts.{is_ordered_on, line_of}
use Rattle.machine.specs.Places.{count_below}
use Rattle.machine.specs.State.{State, class_of, is_of, with_request}

-- an asked request becomes ordered, behind n others
abbrev pub ordered_behind : ℕ → Request → Request
ordered_behind n Free = Free
ordered_behind n (Asked line op wait) = Ordered line op n wait
ordered_behind n (Ordered line op ahead wait) = Ordered line op ahead wait

module _ (z : Sizes) where
  -- how many ordered requests of a class a line has
  unfoldable pub queue_length : State → Class → ℕ → ℕ
  queue_length s c line = count_below (λ core. is_of z c core && is_ordered_on line (s.requests core)) z.cores

  -- last of its class on its line
  unfoldable pub order : State → ℕ → State
  order s user =
      let r : Request = s.requests user in
      with_request user (ordered_behind (queue_length s (class_of z user) (line_of r)) r) s
