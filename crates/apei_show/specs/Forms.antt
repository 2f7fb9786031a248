-- The form in which items are shown.
use Rattle.show_items.specs.declared.sheet.Form.{Form as Shown}
use Rattle.show_items.specs.declared.sheet.Form.TheVariants as shown
use Rattle.apei_show.specs.declared.options.Form.{Form as Asked}
use Rattle.apei_show.specs.declared.options.Form.TheVariants as asked

-- by that which the words ask for
abbrev pub shown_as : Asked → Shown
shown_as asked.Text = shown.Text
shown_as asked.Brief = shown.Brief
shown_as asked.Json = shown.Json
