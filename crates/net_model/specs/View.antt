-- The formula that an expression of the code is.
use Rattle.net_model.specs.declared.ast.Expr as source
use Rattle.net_model.specs.declared.ast.Expr.TheVariants as e
use Rattle.net_model.specs.Formula.{Formula, Never, Input, Named, Min, Max, Lt, Inc}

abbrev pub formula : source.Expr → Formula
formula e.Never = Never
formula (e.Input i) = Input i
formula (e.Named j) = Named j
formula (e.Min' p a q b) = Min (formula a) (formula b)
formula (e.Max' p a q b) = Max (formula a) (formula b)
formula (e.Lt' p a q b) = Lt (formula a) (formula b)
formula (e.Inc' p a c) = Inc (formula a) c
