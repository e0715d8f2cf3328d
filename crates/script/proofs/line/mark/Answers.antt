use Rattle.std.proofs.Common.{arith}
use Rattle.script.proofs.Consoles.{one_digit, two_digits}
use Rattle.script.proofs.line.mark.Goals as goal

pub returns-in-1 : goal.returns-in-1
returns-in-1 c = one_digit c.args.console 1 c.in-1.is (omega arith) (omega arith)

pub returns-in-2 : goal.returns-in-2
returns-in-2 c = one_digit c.args.console 2 c.in-2.is (omega arith) (omega arith)

pub returns-in-3 : goal.returns-in-3
returns-in-3 c = one_digit c.args.console 3 c.in-3.is (omega arith) (omega arith)

pub returns-in-4 : goal.returns-in-4
returns-in-4 c = one_digit c.args.console 4 c.in-4.is (omega arith) (omega arith)

pub returns-in-5 : goal.returns-in-5
returns-in-5 c = one_digit c.args.console 5 c.in-5.is (omega arith) (omega arith)

pub returns-in-6 : goal.returns-in-6
returns-in-6 c = one_digit c.args.console 6 c.in-6.is (omega arith) (omega arith)

pub returns-in-7 : goal.returns-in-7
returns-in-7 c = one_digit c.args.console 7 c.in-7.is (omega arith) (omega arith)

pub returns-in-8 : goal.returns-in-8
returns-in-8 c = one_digit c.args.console 8 c.in-8.is (omega arith) (omega arith)

pub returns-in-9 : goal.returns-in-9
returns-in-9 c = one_digit c.args.console 9 c.in-9.is (omega arith) (omega arith)

pub returns-in-10 : goal.returns-in-10
returns-in-10 c = two_digits c.args.console 10 c.in-10.is (omega arith) (omega arith)

pub returns-in-11 : goal.returns-in-11
returns-in-11 c = two_digits c.args.console 11 c.in-11.is (omega arith) (omega arith)

pub returns-in-12 : goal.returns-in-12
returns-in-12 c = two_digits c.args.console 12 c.in-12.is (omega arith) (omega arith)

pub returns-in-13 : goal.returns-in-13
returns-in-13 c = two_digits c.args.console 13 c.in-13.is (omega arith) (omega arith)

pub returns-in-14 : goal.returns-in-14
returns-in-14 c = two_digits c.args.console 14 c.in-14.is (omega arith) (omega arith)

pub returns-in-15 : goal.returns-in-15
returns-in-15 c = two_digits c.args.console 15 c.in-15.is (omega arith) (omega arith)

pub returns-in-16 : goal.returns-in-16
returns-in-16 c = two_digits c.args.console 16 c.in-16.is (omega arith) (omega arith)
