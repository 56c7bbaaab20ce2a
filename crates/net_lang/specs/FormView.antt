-- What a form of the code is.
use Rattle.std.specs.Prelude.{map}
use Rattle.net_lang.specs.declared.reader.form.Form as source
use Rattle.net_lang.specs.declared.reader.form.Form.TheVariants as f
use Rattle.net_lang.specs.Forms.{Form, Header, Inputs, Define}
use Rattle.net_lang.specs.Written.{expression}

abbrev pub form : source.Form → Form
form f.Header = Header
form (f.Inputs ns) = Inputs (map (λ n. n.now) ns.items)
form (f.Define k n t) = Define k n.now (expression t)
