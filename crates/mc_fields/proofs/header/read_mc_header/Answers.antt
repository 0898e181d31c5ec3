-- `mc_fields::header::read_mc_header` meets its contract.
-- Each answer goes on from the one before it: its facts are those of its own goal, which a lemma would be given by name.
use Rattle.bit_reader.proofs.ReadLaws.{returned, field-on, field-stops, stays}
use Rattle.mc_fields.specs.Head.{mc_header}
use Rattle.mc_fields.proofs.header.read_mc_header.Goals as goal

pub returns-in_err-ext_bit_stream_present : goal.returns-in_err-ext_bit_stream_present
unfolding mc_header
returns-in_err-ext_bit_stream_present c = returned _ _ c.from_residual.ensures.1 (field-stops c.in_err-ext_bit_stream_present.ensures.reads)

pub returns-in_err-n_ad_bytes : goal.returns-in_err-n_ad_bytes
unfolding mc_header
returns-in_err-n_ad_bytes c = returned _ _ c.from_residual-in_err-n_ad_bytes.ensures.1 (field-on c.in_ok-ext_bit_stream_present.ensures.reads (field-stops (rw c.bits_if.ensures at c.in_err-n_ad_bytes.ensures.reads)))

pub returns-in_err-centre : goal.returns-in_err-centre
unfolding mc_header
returns-in_err-centre c = returned _ _ c.from_residual-in_err-centre.ensures.1 (field-on c.in_ok-ext_bit_stream_present.ensures.reads (field-on (rw c.bits_if.ensures at c.in_ok-n_ad_bytes.ensures.reads) (field-stops c.in_err-centre.ensures.reads)))

pub returns-in_err-surround : goal.returns-in_err-surround
unfolding mc_header
returns-in_err-surround c = returned _ _ c.from_residual-in_err-surround.ensures.1 (field-on c.in_ok-ext_bit_stream_present.ensures.reads (field-on (rw c.bits_if.ensures at c.in_ok-n_ad_bytes.ensures.reads) (field-on c.in_ok-centre.ensures.reads (field-stops c.in_err-surround.ensures.reads))))

pub returns-in_err-lfe : goal.returns-in_err-lfe
unfolding mc_header
returns-in_err-lfe c = returned _ _ c.from_residual-in_err-lfe.ensures.1 (field-on c.in_ok-ext_bit_stream_present.ensures.reads (field-on (rw c.bits_if.ensures at c.in_ok-n_ad_bytes.ensures.reads) (field-on c.in_ok-centre.ensures.reads (field-on c.in_ok-surround.ensures.reads (field-stops c.in_err-lfe.ensures.reads)))))

pub returns-in_err-audio_mix : goal.returns-in_err-audio_mix
unfolding mc_header
returns-in_err-audio_mix c = returned _ _ c.from_residual-in_err-audio_mix.ensures.1 (field-on c.in_ok-ext_bit_stream_present.ensures.reads (field-on (rw c.bits_if.ensures at c.in_ok-n_ad_bytes.ensures.reads) (field-on c.in_ok-centre.ensures.reads (field-on c.in_ok-surround.ensures.reads (field-on c.in_ok-lfe.ensures.reads (field-stops c.in_err-audio_mix.ensures.reads))))))

pub returns-in_err-dematrix_procedure : goal.returns-in_err-dematrix_procedure
unfolding mc_header
returns-in_err-dematrix_procedure c = returned _ _ c.from_residual-in_err-dematrix_procedure.ensures.1 (field-on c.in_ok-ext_bit_stream_present.ensures.reads (field-on (rw c.bits_if.ensures at c.in_ok-n_ad_bytes.ensures.reads) (field-on c.in_ok-centre.ensures.reads (field-on c.in_ok-surround.ensures.reads (field-on c.in_ok-lfe.ensures.reads (field-on c.in_ok-audio_mix.ensures.reads (field-stops c.in_err-dematrix_procedure.ensures.reads)))))))

pub returns-in_err-no_of_multi_lingual_ch : goal.returns-in_err-no_of_multi_lingual_ch
unfolding mc_header
returns-in_err-no_of_multi_lingual_ch c = returned _ _ c.from_residual-in_err-no_of_multi_lingual_ch.ensures.1 (field-on c.in_ok-ext_bit_stream_present.ensures.reads (field-on (rw c.bits_if.ensures at c.in_ok-n_ad_bytes.ensures.reads) (field-on c.in_ok-centre.ensures.reads (field-on c.in_ok-surround.ensures.reads (field-on c.in_ok-lfe.ensures.reads (field-on c.in_ok-audio_mix.ensures.reads (field-on c.in_ok-dematrix_procedure.ensures.reads (field-stops c.in_err-no_of_multi_lingual_ch.ensures.reads))))))))

pub returns-in_err-multi_lingual_fs_half : goal.returns-in_err-multi_lingual_fs_half
unfolding mc_header
returns-in_err-multi_lingual_fs_half c = returned _ _ c.from_residual-in_err-multi_lingual_fs_half.ensures.1 (field-on c.in_ok-ext_bit_stream_present.ensures.reads (field-on (rw c.bits_if.ensures at c.in_ok-n_ad_bytes.ensures.reads) (field-on c.in_ok-centre.ensures.reads (field-on c.in_ok-surround.ensures.reads (field-on c.in_ok-lfe.ensures.reads (field-on c.in_ok-audio_mix.ensures.reads (field-on c.in_ok-dematrix_procedure.ensures.reads (field-on c.in_ok-no_of_multi_lingual_ch.ensures.reads (field-stops c.in_err-multi_lingual_fs_half.ensures.reads)))))))))

pub returns-in_err-multi_lingual_layer3 : goal.returns-in_err-multi_lingual_layer3
unfolding mc_header
returns-in_err-multi_lingual_layer3 c = returned _ _ c.from_residual-in_err-multi_lingual_layer3.ensures.1 (field-on c.in_ok-ext_bit_stream_present.ensures.reads (field-on (rw c.bits_if.ensures at c.in_ok-n_ad_bytes.ensures.reads) (field-on c.in_ok-centre.ensures.reads (field-on c.in_ok-surround.ensures.reads (field-on c.in_ok-lfe.ensures.reads (field-on c.in_ok-audio_mix.ensures.reads (field-on c.in_ok-dematrix_procedure.ensures.reads (field-on c.in_ok-no_of_multi_lingual_ch.ensures.reads (field-on c.in_ok-multi_lingual_fs_half.ensures.reads (field-stops c.in_err-multi_lingual_layer3.ensures.reads))))))))))

pub returns-in_err-copyright_identification_bit : goal.returns-in_err-copyright_identification_bit
unfolding mc_header
returns-in_err-copyright_identification_bit c = returned _ _ c.from_residual-in_err-copyright_identification_bit.ensures.1 (field-on c.in_ok-ext_bit_stream_present.ensures.reads (field-on (rw c.bits_if.ensures at c.in_ok-n_ad_bytes.ensures.reads) (field-on c.in_ok-centre.ensures.reads (field-on c.in_ok-surround.ensures.reads (field-on c.in_ok-lfe.ensures.reads (field-on c.in_ok-audio_mix.ensures.reads (field-on c.in_ok-dematrix_procedure.ensures.reads (field-on c.in_ok-no_of_multi_lingual_ch.ensures.reads (field-on c.in_ok-multi_lingual_fs_half.ensures.reads (field-on c.in_ok-multi_lingual_layer3.ensures.reads (field-stops c.in_err-copyright_identification_bit.ensures.reads)))))))))))

pub returns-in_err-copyright_identification_start : goal.returns-in_err-copyright_identification_start
unfolding mc_header
returns-in_err-copyright_identification_start c = returned _ _ c.from_residual-in_err-copyright_identification_start.ensures.1 (field-on c.in_ok-ext_bit_stream_present.ensures.reads (field-on (rw c.bits_if.ensures at c.in_ok-n_ad_bytes.ensures.reads) (field-on c.in_ok-centre.ensures.reads (field-on c.in_ok-surround.ensures.reads (field-on c.in_ok-lfe.ensures.reads (field-on c.in_ok-audio_mix.ensures.reads (field-on c.in_ok-dematrix_procedure.ensures.reads (field-on c.in_ok-no_of_multi_lingual_ch.ensures.reads (field-on c.in_ok-multi_lingual_fs_half.ensures.reads (field-on c.in_ok-multi_lingual_layer3.ensures.reads (field-on c.in_ok-copyright_identification_bit.ensures.reads (field-stops c.in_err-copyright_identification_start.ensures.reads))))))))))))

pub returns : goal.returns
unfolding mc_header
returns c = field-on c.in_ok-ext_bit_stream_present.ensures.reads (field-on (rw c.bits_if.ensures at c.in_ok-n_ad_bytes.ensures.reads) (field-on c.in_ok-centre.ensures.reads (field-on c.in_ok-surround.ensures.reads (field-on c.in_ok-lfe.ensures.reads (field-on c.in_ok-audio_mix.ensures.reads (field-on c.in_ok-dematrix_procedure.ensures.reads (field-on c.in_ok-no_of_multi_lingual_ch.ensures.reads (field-on c.in_ok-multi_lingual_fs_half.ensures.reads (field-on c.in_ok-multi_lingual_layer3.ensures.reads (field-on c.in_ok-copyright_identification_bit.ensures.reads (field-on c.in_ok-copyright_identification_start.ensures.reads stays)))))))))))
