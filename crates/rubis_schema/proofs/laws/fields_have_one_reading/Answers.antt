use Rattle.rubis_numbers.proofs.NumberLaws.{number_is}
use Rattle.rubis_schema.proofs.FieldLaws.{id_is, name_is, nick_is, rating_is, text_is}
use Rattle.rubis_schema.proofs.laws.fields_have_one_reading.Goals as goal

pub returns : goal.returns
returns c = record { numbers = number_is; ids = id_is; ratings = rating_is; nicks = nick_is; names = name_is; texts = text_is }
