-- `audit::number_of` has the number of each verdict.
use Rattle.rules.specs.Audit.{number_of}
use Rattle.audit.proofs.number_of.Goals as goal

pub returns-in-Yes : goal.returns-in-Yes
unfolding number_of
returns-in-Yes c = rw c.in-Yes.is

pub returns-in-Shape : goal.returns-in-Shape
unfolding number_of
returns-in-Shape c = rw c.in-Shape.is

pub returns-in-Zeros : goal.returns-in-Zeros
unfolding number_of
returns-in-Zeros c = rw c.in-Zeros.is

pub returns-in-Closed : goal.returns-in-Closed
unfolding number_of
returns-in-Closed c = rw c.in-Closed.is

pub returns-in-Open : goal.returns-in-Open
unfolding number_of
returns-in-Open c = rw c.in-Open.is

pub returns-in-Bits : goal.returns-in-Bits
unfolding number_of
returns-in-Bits c = rw c.in-Bits.is

pub returns-in-Lists : goal.returns-in-Lists
unfolding number_of
returns-in-Lists c = rw c.in-Lists.is

pub returns-in-Counts : goal.returns-in-Counts
unfolding number_of
returns-in-Counts c = rw c.in-Counts.is

pub returns-in-Blocks : goal.returns-in-Blocks
unfolding number_of
returns-in-Blocks c = rw c.in-Blocks.is

pub returns-in-Order : goal.returns-in-Order
unfolding number_of
returns-in-Order c = rw c.in-Order.is
