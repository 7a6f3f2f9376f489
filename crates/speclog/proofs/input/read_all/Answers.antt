use Rattle.std.proofs.Common.{◌≡◌, ◌<◌, ◌≤◌, ◌++◌, length, take, refl, arith, length-append}
use Rattle.std.proofs.lemmas.List.{length-take-le}
use Rattle.spec_base.proofs.KnownBytes.{given_more}
use Rattle.speclog.proofs.input.read_all.Goals as goal

pub returns-then-count-len-clause-read : goal.returns-then-count-len-clause-read
returns-then-count-len-clause-read g c =
    let piece = take c.in-Ok.count c.read.new.into in
    let some : length piece ≡ c.in-Ok.count = length-take-le c.in-Ok.count c.read.new.into c.in-Ok.ensures.fits in
    let many : 16777216 < length (c.pieces.bytes ++ piece) = omega (arith, length-append c.pieces.bytes piece) in
    record {
      read = c.pieces.bytes ++ piece;
      taken = given_more _ _ _ _ _ c.pieces.invariant.given c.in-Ok.ensures.given;
      too_long = (λ _. many, λ _. refl);
      all = tt;
      to_the_end = tt;
    }

pub returns-in-Err-clause-read : goal.returns-in-Err-clause-read
returns-in-Err-clause-read g c =
    let piece = take c.in-Ok.count c.read.new.into in
    let some : length piece ≡ c.in-Ok.count = length-take-le c.in-Ok.count c.read.new.into c.in-Ok.ensures.fits in
    let few : length (c.pieces.bytes ++ piece) ≤ 16777216 = omega (arith, length-append c.pieces.bytes piece) in
    record {
      read = c.pieces.bytes ++ piece;
      taken = given_more _ _ _ _ _ c.pieces.invariant.given c.in-Ok.ensures.given;
      too_long = (λ e. absurd (cc), λ many. absurd (omega arith));
      all = tt;
      to_the_end = tt;
    }
