use mathlib.Core.Path.{ap, ◌≡◌}
use Prim.Native.Nat.{ℕ, ◌%◌, ◌*◌, ◌^◌}
use native.Mathlib.Omega.{arith}
use lib.Dec.{leb}
use Rattle.locker_profile.specs.Rules.{is_long}
use Rattle.locker_profile.proofs.Paths.{chips-are}
use Rattle.locker_profile.proofs.is_long.Goals as goal

pub returns : goal.returns
unfolding is_long
returns c =
    let chips : (1 * 2 ^ c.args.sf) % 18446744073709551616 ≡ 2 ^ c.args.sf * 1 = omega (arith, chips-are c.args.sf c.requires) in
    ap (λ (n : ℕ). leb (16 * c.args.hz) (n * 1000)) chips
