use Rattle.std.proofs.Common.{◌^◌, ◌≤◌, suc, arith}
use Rattle.std.proofs.Math.Nat.{pow-le-pow_right, pow-suc}
use Rattle.runfile.proofs.reader.number_of.Goals as goal

pub overflow_mul-number : goal.overflow_mul-number
overflow_mul-number g c =
    let i = c.loop-byte.byte-index in
    let in_eight : suc i ≤ 8 = omega arith in
    let most : 256 ^ suc i ≤ 256 ^ 8 = pow-le-pow_right (omega arith) in_eight in
    omega (arith, rw (pow-suc 256 i) at most)
