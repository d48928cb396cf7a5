use Rattle.minimiser.proofs.lowering.bounds.Goals as goal

pub returns-then-has-clause-led : goal.returns-then-has-clause-led
returns-then-has-clause-led c = λ count low leads t. c.gives.ensures.led c.args.floor.now count low (λ e. c.has.ensures.0 c.if-has.true) leads t

pub returns-then-has-clause-bounded : goal.returns-then-has-clause-bounded
returns-then-has-clause-bounded c = λ t. record { above = λ there. c.gives.ensures.given t; within = λ out far. absurd (out (c.has.ensures.0 c.if-has.true)) }

pub returns-clause-led : goal.returns-clause-led
returns-clause-led c = λ count low leads t. c.gives-2.ensures.led c.args.floor.now count low (λ e. absurd cc) leads t
