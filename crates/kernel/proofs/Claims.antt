-- What specs/Claims.antt claims. Assumes nothing.
use Rattle.kernel.specs.Claims.{Claims}
use Rattle.kernel.proofs.Highest.{dispatch_is_highest}
use Rattle.kernel.proofs.Queue.{dispatch_is_kernel}
use Rattle.kernel.proofs.Answers.{dispatch_is_answer}

pub the_claims : Claims
the_claims = record { dispatch_is_kernel = dispatch_is_kernel; dispatch_is_answer = dispatch_is_answer; dispatch_is_highest = dispatch_is_highest }
