-- `number::size` meets its contract: the ranges of 004's table, in their order. Assumes nothing.
use Rattle.number.specs.Number.{size_of}
use Rattle.sequences.proofs.Tests.{tests}
use borrow.Author.Rules.{rules}
use Rattle.number.proofs.size.Goals as goal

pub returns-then-value-lt128 : goal.returns-then-value-lt128
unfolding size_of
returns-then-value-lt128 c = (simp (tests, c.if-value-lt128.true), search rules, search rules)

pub returns-then-value-lt16384 : goal.returns-then-value-lt16384
unfolding size_of
returns-then-value-lt16384 c = (simp (tests, c.if-value-lt128.false, c.if-value-lt16384.true), search rules, search rules)

pub returns-then-value-lt2097152 : goal.returns-then-value-lt2097152
unfolding size_of
returns-then-value-lt2097152 c = (simp (tests, c.if-value-lt128.false, c.if-value-lt16384.false, c.if-value-lt2097152.true), search rules, search rules)

pub returns-then-value-lt268435456 : goal.returns-then-value-lt268435456
unfolding size_of
returns-then-value-lt268435456 c = (simp (tests, c.if-value-lt128.false, c.if-value-lt16384.false, c.if-value-lt2097152.false, c.if-value-lt268435456.true), search rules, search rules)

pub returns : goal.returns
unfolding size_of
returns c = (simp (tests, c.if-value-lt128.false, c.if-value-lt16384.false, c.if-value-lt2097152.false, c.if-value-lt268435456.false), search rules, search rules)
