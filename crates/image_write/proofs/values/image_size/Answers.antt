-- `image_size`: the constant field, the accounts, the links. Assumes nothing.
use Rattle.image_write.proofs.Writing.{account_found, link_found, account_bad, link_bad, all_good}
use Rattle.image_write.proofs.values.image_size.Goals as goal

pub returns-then-account-n : goal.returns-then-account-n
returns-then-account-n c = search (account_bad, account_found)

pub returns-then-link-m : goal.returns-then-link-m
returns-then-link-m c = search (link_bad, account_found, link_found)

pub returns : goal.returns
returns c = search (all_good, account_found, link_found)
