-- What an image is written from and what a frame call is lent, from the struct that the code passes.
use Rattle.tables.specs.Rows.{Config, config_for}
use Rattle.tables.specs.declared.LentTables.{LentTables}

abbrev pub config_in : LentTables → Config
config_in t = config_for t.settings t.accounts.now t.links.now
