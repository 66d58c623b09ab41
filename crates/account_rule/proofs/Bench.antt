-- The bench sheet's starred cases, by computing the definitions. Assumes nothing.
use mathlib.Core.Path.{refl}
use Rattle.lists.specs.History.{answers, final}
use Rattle.frame.specs.Frame.{length_code}
use Rattle.terms.specs.Terms.{terms_good, bag, added, charge, rate, capacity, by_octets, charged, cost}
use Rattle.account.specs.Account.{account_sound, credit_up_to, capacity_of, cost_of, topped_up}
use Rattle.account.specs.Step.{judged, judged_at, policed}
use Rattle.account_rule.specs.Bucket.{last_time, holds_from, rule_holds, costs}
use Rattle.account_rule.specs.Rule.{allowance, rule_arrived, rule_step}
use Rattle.account_rule.specs.Bench.{BenchTable}

pub bench_table : BenchTable
unfolding length_code terms_good bag added charge rate capacity by_octets charged cost account_sound credit_up_to capacity_of cost_of topped_up judged judged_at policed last_time holds_from rule_holds costs answers final allowance rule_arrived rule_step
bench_table = (refl, refl, refl, refl, refl, refl, refl)
