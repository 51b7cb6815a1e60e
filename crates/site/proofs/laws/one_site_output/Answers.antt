use Rattle.site.proofs.SameSite.{files_give_modules, one_site_output, site_asking, site_explained, site_fronts_agree, site_fronts_begin, site_plain}
use Rattle.site.proofs.laws.one_site_output.Goals as goal

pub returns-clause-whole : goal.returns-clause-whole
returns-clause-whole c = one_site_output c.one_module.ensures c.one_image.ensures

pub returns-clause-front : goal.returns-clause-front
returns-clause-front c = site_fronts_begin c.one_module.ensures c.one_image.ensures

pub returns-clause-fronts : goal.returns-clause-fronts
returns-clause-fronts c = site_fronts_agree c.one_module.ensures c.one_image.ensures

pub returns-clause-files : goal.returns-clause-files
returns-clause-files c = files_give_modules

pub returns-clause-explained : goal.returns-clause-explained
returns-clause-explained c = site_explained

pub returns-clause-plain : goal.returns-clause-plain
returns-clause-plain c = site_plain c.one_module.ensures c.one_image.ensures

pub returns-clause-asking : goal.returns-clause-asking
returns-clause-asking c = site_asking
